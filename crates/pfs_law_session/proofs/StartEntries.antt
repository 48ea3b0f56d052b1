-- What a start writes, and how the session stands behind it.
use Rattle.std.proofs.Common.{ℕ, ◌≡◌, ◌+◌, true, cond, List, [], ◌∷◌, ◌++◌, Option, Some, None, refl, ap, sym, ◌∙◌, subst}
use Rattle.std.specs.Prelude.{Ok}
use Rattle.pfs_event.specs.Verdicts.{is_let_through}
use Rattle.pfs_event.specs.declared.entry.Entry.{Entry}
use Rattle.pfs_event.specs.declared.entry.Entry.TheVariants as says
use Rattle.pfs_event.specs.declared.open.Open.{Open}
use Rattle.pfs_event.specs.declared.verdict.Verdict.{Verdict}
use Rattle.pfs_levels.specs.Calls.{Call}
use Rattle.pfs_model.specs.Contexts.{Context, noted}
use Rattle.pfs_model.specs.Cuts.{cut, is_headed}
use Rattle.pfs_model.specs.EventNumbers.{IsNumbered}
use Rattle.pfs_model.specs.SetupFlags.{IsJudged, verdict_of, seen_by, is_statement, is_wait}
use Rattle.pfs_model.specs.Shapes.{starting}
use Rattle.pfs_model.specs.declared.lines.Subject.{Subject}
use Rattle.pfs_session.specs.EventPuts.{is_placed_by, put_entries}
use Rattle.pfs_session.specs.Starts.{Starts, start_entry, started, verdict_in, is_timed_by, is_digested_by, if_through}
use Rattle.pfs_session.specs.SessionStates.{State, count_open, one_if}
use Rattle.pfs_session.specs.declared.setup.Setup.{Setup}
use Rattle.pfs_law_session.proofs.CommonState.{same_count, one_cond}
use Rattle.pfs_law_session.proofs.StartLoads.{consumers_in, thread_in, class_in, table_in, start_as, start_shaped, start_judged, start_counted, start_digested, start_offered, start_row, event_of}
use Rattle.pfs_law_session.proofs.ActionShapes.{AreAll}
use Rattle.pfs_law_session.proofs.RingPuts.{is_ring, put_ring, start_short}
use Rattle.pfs_law_session.specs.Agreement.{LoadsAgree, IsAlike, Agrees}
use Rattle.pfs_law_session.specs.Deeds.{IsSubject}

-- a start by itself, where the line before it has turned or a stage has just ended
pub record StartIs (flags : ℕ → ℕ → ℕ) (stack : ℕ) (context : Context) (subject : Subject) (entries : List Entry) (after : State) : Type 0 where
  pub shaped : cut (starting context.slot subject) entries ≡ Ok []
  pub headed : is_headed entries ≡ true
  pub entry : Entry
  pub rings : List Entry
  pub only : entries ≡ entry ∷ rings
  pub ringed : AreAll true is_ring rings
  pub judged : IsJudged stack flags (Some subject) context entry
  pub numbered : IsNumbered context entry
  pub agrees : Agrees flags (noted (Some subject) context entry) after

seen_stands : (flags : ℕ → ℕ → ℕ) (context : Context) (s : State) (subject : Subject) (seen : Option Setup) (what : Open) (v : Verdict)
    → Agrees flags context s → v ≡ what.verdict → what.event.number ≡ s.drawn + 1
    → IsAlike flags s.place.thread (event_of subject v context.begun (s.drawn + 1) seen) what
    → Agrees flags (noted (Some subject) context (says.Start (if_through v (s.drawn + 1)) v (consumers_in seen) (thread_in seen) (class_in seen) (table_in seen))) (started s what)
seen_stands flags context s subject seen what v a e n like = record {
  slot = a.slot;
  opened = (like, a.opened);
  held = a.held;
  drawn = ap (λ z. z + cond (is_let_through v) 1 0) a.drawn ∙ ap (λ z. s.drawn + z) (one_cond (is_let_through v) ∙ ap (λ z. one_if (is_let_through z)) e);
  wide = a.wide;
  low = a.low;
}

number_as : (v : Verdict) (context : Context) (drawn : ℕ) → context.drawn ≡ drawn → if_through v (drawn + 1) ≡ cond (is_let_through v) (Some (context.drawn + 1)) None
number_as v context drawn e = ap (λ z. cond (is_let_through v) (Some (z + 1)) None) (sym e)

pub loads_behind : (flags : ℕ → ℕ → ℕ) (xs ys : List Call) → LoadsAgree flags (xs ++ ys) → LoadsAgree flags ys
loads_behind flags [] ys l = l
loads_behind flags (x ∷ xs) ys l = loads_behind flags xs ys l.1

pub start_is : (flags : ℕ → ℕ → ℕ) (context : Context) (s : State) (subject : Subject) (calls : List Call) (entries : List Entry) (after : State)
    → Agrees flags context s → IsSubject subject → Starts s subject calls entries after → LoadsAgree flags calls → StartIs flags s.stack context subject entries after
start_is flags context s subject calls entries after a is x loads =
    let st = x.begins in
    let v : Verdict = verdict_in s subject st.seen in
    let n : ℕ = s.drawn + 1 in
    let entry : Entry = says.Start (if_through v n) v (consumers_in st.seen) (thread_in st.seen) (class_in st.seen) (table_in st.seen) in
    let whole : entries ≡ start_entry v n st.seen ∷ put_entries x.current = x.entries_are ∙ ap (λ z. z ++ put_entries x.current) st.entries_are in
    let same : entries ≡ entry ∷ put_entries x.current = whole ∙ ap (λ z. z ∷ put_entries x.current) (start_as v n st.seen) in
    let agree = subst (LoadsAgree flags) st.calls_are (loads_behind flags x.put_calls x.begun_calls (subst (LoadsAgree flags) x.calls_are loads)) in
    let statements = same_count flags s.place.thread is_statement context.opened s.opened.events a.opened in
    let waits = same_count flags s.place.thread is_wait context.opened s.opened.events a.opened in
    let P : Option ℕ → Type 0 = λ z. cut (starting z subject) entries ≡ Ok [] in
    let J : Option ℕ → Type 0 = λ z. v ≡ verdict_of s.stack z subject (seen_by flags z (event_of subject v context.begun n st.seen)) context.opened in
    let like : IsAlike flags s.place.thread (event_of subject v context.begun n st.seen) st.what = record {
      kind = sym st.opened.kind;
      verdict = sym st.opened.verdict_is;
      number = ap (λ z. if_through v z) (sym st.opened.number) ∙ ap (λ z. if_through z st.what.event.number) (sym st.opened.verdict_is);
      counted = start_counted flags s.place.thread subject v context.begun n st.seen subject.class s.number s.drawn s.clock s.opened.events (is_timed_by subject st.seen) (is_digested_by subject v st.seen)
          (is_placed_by subject v st.seen) st.what
          s.stack (count_open is_statement s.opened.events) (count_open is_wait s.opened.events) refl is st.loaded agree refl refl st.opened;
      digested = start_digested flags s.place.thread subject v context.begun n st.seen subject.class refl st.loaded agree ∙ sym st.opened.digested_is;
      placed = start_offered flags s.place.thread subject v context.begun n st.seen subject.class refl st.loaded agree ∙ sym st.opened.placed_is;
      digest = start_row subject (is_digested_by subject v st.seen) st.what st.opened.digested_is st.opened.link;
    } in
    record {
      shaped = subst P (sym a.slot) (ap (λ z. cut (starting s.place.thread subject) z) whole
          ∙ start_shaped s.place.thread subject st.seen s.stack (count_open is_statement s.opened.events) (count_open is_wait s.opened.events) v n st.loaded refl x.current
          (start_short s.place.thread st.what _ st.what.event x.current x.put_calls x.put_is));
      headed = ap is_headed same;
      entry = entry;
      rings = put_entries x.current;
      only = same;
      ringed = put_ring x.current;
      judged = subst J (sym a.slot) (start_judged flags s.stack s.place.thread subject v context.begun n st.seen context.opened
          (count_open is_statement s.opened.events) (count_open is_wait s.opened.events) subject.class refl st.loaded agree statements waits refl);
      numbered = number_as v context s.drawn a.drawn;
      agrees = subst (λ z. Agrees flags (noted (Some subject) context entry) z) (sym st.after_is)
          (seen_stands flags context s subject st.seen st.what v a (sym st.opened.verdict_is) st.opened.number like);
    }
