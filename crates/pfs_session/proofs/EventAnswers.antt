-- What starts, ends and stages answer, from what their parts wrote.
use Rattle.std.proofs.Common.{ℕ, ◌≡◌, List, [], ◌∷◌, ◌++◌, Option, Some, None, refl, ap, sym, ◌∙◌, subst}
use Rattle.pfs_event.specs.declared.entry.Entry.{Entry}
use Rattle.pfs_event.specs.declared.entry.Entry.TheVariants as says
use Rattle.pfs_event.specs.declared.open.Open.{Open}
use Rattle.pfs_event.specs.declared.verdict.Verdict.{Verdict}
use Rattle.pfs_levels.specs.Calls.{Call, Opening}
use Rattle.pfs_event.specs.Logs.{Journal}
use Rattle.pfs_model.specs.declared.lines.Subject.{Subject}
use Rattle.pfs_session.specs.EventAnswers.{SaysStart, SaysEnd, SaysStage, SaysStageEnd, SaysStageStart, is_in_stage}
use Rattle.std.proofs.lemmas.List.{append_assoc}
use Rattle.pfs_rings.specs.declared.puts.Put.{Put}
use Rattle.pfs_session.specs.EventPuts.{put_entries}
use Rattle.pfs_session.specs.Ends.{Finished, added_entry, added_entries}
use Rattle.pfs_session.specs.Starts.{if_through, start_entry}
use Rattle.pfs_session.specs.SessionStates.{Book}
use Rattle.pfs_session.specs.declared.events.Numbers.{Numbers}
use Rattle.pfs_session.specs.declared.outcomes.End.{End}
use Rattle.pfs_session.specs.declared.outcomes.End.TheVariants.{Through}
use Rattle.pfs_session.specs.declared.outcomes.Ended.{Ended}
use Rattle.pfs_session.specs.declared.outcomes.Started.{Started}
use Rattle.pfs_session.specs.declared.setup.Setup.{Setup}

start_entry_says : (seen : Option Setup) (verdict : Verdict) (number : ℕ) (current : Option Put) (before after : List Entry)
    → after ≡ before ++ start_entry verdict number seen ∷ put_entries current
    → SaysStart (record { event = if_through verdict number; verdict = verdict; seen = seen; current = current }) before after
start_entry_says None verdict number current before after is = record { entries_are = is }
start_entry_says (Some seen) verdict number current before after is = record { entries_are = is }

pub start_says : (seen : Option Setup) (verdict : Verdict) (number : ℕ) (entry : Entry) (what : Open) (event : Option ℕ) (current : Option Put) (before mid after : List Entry)
    → event ≡ if_through what.verdict what.event.number → what.verdict ≡ verdict → what.event.number ≡ number → entry ≡ start_entry verdict number seen
    → mid ≡ before ++ entry ∷ [] → after ≡ mid ++ put_entries current
    → SaysStart (record { event = event; verdict = verdict; seen = seen; current = current }) before after
start_says seen verdict number entry what event current before mid after a v n e is last =
    let same : event ≡ if_through verdict number = a ∙ (ap (λ z. if_through z what.event.number) v ∙ ap (λ z. if_through verdict z) n) in
    let front : mid ≡ before ++ start_entry verdict number seen ∷ [] = is ∙ ap (λ z. before ++ z ∷ []) e in
    subst (λ z. SaysStart (record { event = z; verdict = verdict; seen = seen; current = current }) before after) (sym same)
    (start_entry_says seen verdict number current before after
    (last ∙ (ap (λ z. z ++ put_entries current) front ∙ append_assoc before (start_entry verdict number seen ∷ []) (put_entries current))))

pub end_says : (old mid new : Book) (what : Open) (numbers : Numbers) (answer : Ended) (was now : Opening → List Call → Type 0)
    → mid.journal ≡ old.journal → Finished mid new what numbers answer was now → SaysEnd (Through answer) old.journal.entries new.journal.entries
end_says old mid new what numbers answer was now journal f =
    let x = f.ends.adds in
    let c = x.counts in
    let line : Entry = says.End (Some what.event.number) (Some mid.state.drawn) (Some c.consumers.version) (Some c.thread.version) in
    let added : f.ends.added_entries ≡ line ∷ added_entry answer.summary ∷ added_entries answer.digest =
    x.entries_are ∙ (ap (λ z. z ++ x.digested_entries) c.entries_are
    ∙ (ap (λ z. line ∷ added_entry z ∷ x.digested_entries) f.summary_is ∙ ap (λ z. line ∷ added_entry answer.summary ∷ z) f.digest_is)) in
    let puts : List Entry = put_entries answer.current ++ (put_entries answer.history ++ put_entries answer.long) in
    let same : f.ends.added_entries ++ f.ends.ring_entries ≡ line ∷ added_entry answer.summary ∷ (added_entries answer.digest ++ puts) =
    ap (λ z. z ++ f.ends.ring_entries) added ∙ ap (λ z. line ∷ added_entry answer.summary ∷ (added_entries answer.digest ++ z)) f.puts_are in
    record {
      event = Some what.event.number;
      last = Some mid.state.drawn;
      consumers = Some c.consumers.version;
      thread = Some c.thread.version;
      through = refl;
      entries_are = f.did.entries_are
          ∙ (ap (λ z. mid.journal.entries ++ z) (f.ends.entries_are ∙ same)
          ∙ ap (λ (j : Journal). j.entries ++ line ∷ added_entry answer.summary ∷ (added_entries answer.digest ++ puts)) journal);
      stand = f.stand;
    }

pub stage_says : (events : List Open) (what : Option Subject) (subject : Subject) (ended : Option End) (begun : Started) (before mid after : List Entry)
    → what ≡ Some subject → SaysStageEnd (is_in_stage events) ended before mid → SaysStart begun mid after
    → SaysStage events what ended (Some begun) before after
stage_says events what subject ended begun before mid after e end start = record {
  between = mid;
  end_is = end;
  start_is = subst (λ z. SaysStageStart z (Some begun) mid after) (sym e) start;
}
