-- The sixth rule of an entry, and of a report.
use Rattle.std.proofs.Common.{◌≡◌, ℕ, ◌+◌, Bool, true, false, List, [], ◌∷◌, sym, ◌∙◌, ap, subst, Option, Some, None}
use Rattle.std.proofs.lemmas.Option.{same_Some}
use Rattle.pfs_event.specs.declared.entry.Entry.{Entry}
use Rattle.pfs_event.specs.declared.entry.Entry.TheVariants as says
use Rattle.pfs_event.specs.declared.verdict.Verdict.{Verdict}
use Rattle.pfs_journal.specs.declared.report.ReportParts.{ReportParts}
use Rattle.pfs_model.specs.Contexts.{Context, subject_of}
use Rattle.pfs_model.specs.declared.lines.Opened.{Opened}
use Rattle.pfs_model.specs.declared.lines.Subject.{Subject}
use Rattle.pfs_model.specs.EntryPlaces.{Placed}
use Rattle.pfs_model.specs.SetupFlags.{AreJudged, IsJudged, SeenSetup, flags_seen, seen_by, verdict_of}
use Rattle.pfs_check_faults.specs.declared.rules.Rule.TheVariants as rules
use Rattle.pfs_check_faults.specs.EntryFaults.{JudgesAt}
use Rattle.pfs_check_faults.specs.Judgements.{IsFirstFault, Keeps}
use Rattle.pfs_check_faults.specs.ReportCases.{AllHave, Case, Findings, LacksOn, entries_of, flags_in, terms_in}
use Rattle.pfs_check_visits.specs.ReportVisits.{IsAsked}
use Rattle.pfs_check_walk.specs.NumberTests.{Tells}
use Rattle.pfs_check_walk.specs.Walks.{IsVisited}
use Rattle.pfs_check_verdicts.specs.VerdictRules.{KnowsSetup, setup_of, started_by}
use Rattle.pfs_check_verdicts.specs.declared.deciding.SeenFlags.{SeenFlags}
use Rattle.pfs_check_verdicts.specs.declared.verdicts.JudgingVerdicts.{JudgingVerdicts}

seen_first : (given : ℕ → ℕ → ℕ) (version : Option ℕ) (seen : ℕ) → seen ≡ flags_seen given (λ at. 0 + at) (Some 0) version
    → seen ≡ flags_seen given (λ number. number) (Some 0) version
seen_first given None seen e = e
seen_first given (Some version) seen e = e

-- what a start saw, word by word
pub seen_parts : (given : ℕ → ℕ → ℕ) (slot : Option ℕ) (event : Opened) (seen : SeenFlags)
    → seen.consumers ≡ flags_seen given (λ at. 0 + at) (Some 0) event.consumers → seen.thread ≡ flags_seen given (λ at. 1 + at) slot event.thread
    → seen.class ≡ flags_seen given (λ at. 33 + at) event.subject.class event.class
    → seen.table ≡ flags_seen given (λ at. 96 + at) event.subject.table event.table → setup_of seen ≡ seen_by given slot event
seen_parts given slot event seen a b c d =
    let P : ℕ → SeenSetup = λ z. record { consumers = z; thread = seen.thread; class = seen.class; table = seen.table } in
    let Q : ℕ → SeenSetup = λ z. record { consumers = (seen_by given slot event).consumers; thread = z; class = seen.class; table = seen.table } in
    let R : ℕ → SeenSetup = λ z. record { consumers = (seen_by given slot event).consumers; thread = (seen_by given slot event).thread; class = z; table = seen.table } in
    let S : ℕ → SeenSetup = λ z. record {
      consumers = (seen_by given slot event).consumers;
      thread = (seen_by given slot event).thread;
      class = (seen_by given slot event).class;
      table = z;
    } in
    ap P (seen_first given event.consumers seen.consumers a) ∙ ap Q b ∙ ap R c ∙ ap S d

-- an entry that starts nothing
pub none_judged : (stack : ℕ) (given : ℕ → ℕ → ℕ) (subject : Option Subject) (context : Context) (entry : Entry) → started_by subject entry ≡ None
    → IsJudged stack given subject context entry
none_judged stack given None context entry e = tt
none_judged stack given (Some subject) context (says.Start event verdict consumers thread class table) e = absurd (cc)
none_judged stack given (Some subject) context _ e = tt

-- and one that does
pub one_judged : (stack : ℕ) (given : ℕ → ℕ → ℕ) (subject : Option Subject) (context : Context) (entry : Entry) (event : Opened) (due : Verdict) (b : Bool)
    → started_by subject entry ≡ Some event → due ≡ verdict_of stack context.slot event.subject (seen_by given context.slot event) context.opened
    → Tells (event.verdict ≡ due) b → Tells (IsJudged stack given subject context entry) b
one_judged stack given None context entry event due b e is t = absurd (cc)
one_judged stack given (Some subject) context (says.Start number verdict consumers thread class table) event due b e is t =
    let began : Opened = record {
      subject = subject;
      verdict = verdict;
      index = 0;
      number = number;
      consumers = consumers;
      thread = thread;
      class = class;
      table = table;
    } in
    let same : event ≡ began = same_Some event began (sym e) in
    subst (λ z. Tells (z.verdict ≡ verdict_of stack context.slot z.subject (seen_by given context.slot z) context.opened) b) same
    (subst (λ z. Tells (event.verdict ≡ z) b) is t)
one_judged stack given (Some subject) context _ event due b e is t = absurd (cc)

-- what a visitor answers by that
pub judged_visit : (case : Case) (found : Findings) (earlier : List Placed) (place : Placed) (judging : JudgingVerdicts) (b : Bool)
    → KnowsSetup case found judging → Tells (IsJudged judging.stack (flags_in case found) (subject_of place.line) place.context place.entry) b
    → IsVisited (JudgesAt (terms_in case found).stack (flags_in case found)) earlier place (λ before. KnowsSetup case found judging) b
judged_visit case found earlier place judging b knows t =
    on b (subst (λ z. Tells (IsJudged z (flags_in case found) (subject_of place.line) place.context place.entry) b) knows.stack t) where
      Rule : List Placed → Placed → Type 0
      Rule = JudgesAt (terms_in case found).stack (flags_in case found)

      on : (b : Bool) → Tells (Rule earlier place) b → IsVisited Rule earlier place (λ before. KnowsSetup case found judging) b
      on true t = (t, knows)
      on false t = t

judged : (stack : ℕ) (flags : ℕ → ℕ → ℕ) (earlier places : List Placed) → AllHave (JudgesAt stack flags) earlier places → AreJudged stack flags places
judged stack flags earlier [] h = tt
judged stack flags earlier (p ∷ ps) h = (h.0, judged stack flags (p ∷ earlier) ps h.1)

-- of a report
pub verdicts_kept : (case : Case) (found : Findings) (report : ReportParts) (all : List Placed) (knows : List Placed → Type 0) → entries_of found ≡ all
    → IsAsked report (JudgesAt (terms_in case found).stack (flags_in case found)) all knows None → Keeps rules.Verdict case found
verdicts_kept case found report all knows same asked =
    judged (terms_in case found).stack (flags_in case found) [] (entries_of found)
    (subst (AllHave (JudgesAt (terms_in case found).stack (flags_in case found)) []) (sym same) asked.0)

pub verdicts_wrong : (case : Case) (found : Findings) (report : ReportParts) (all : List Placed) (knows : List Placed → Type 0) (line : ℕ)
    → case.report ≡ report → entries_of found ≡ all → IsAsked report (JudgesAt (terms_in case found).stack (flags_in case found)) all knows (Some line)
    → IsFirstFault rules.Verdict case found line
verdicts_wrong case found report all knows line same alike asked = record {
  fails = here line asked.fails;
  first = λ other less fails. asked.first other less (there_is other fails);
} where
  Rule : List Placed → Placed → Type 0
  Rule = JudgesAt (terms_in case found).stack (flags_in case found)

  here : (line : ℕ) → LacksOn report Rule all line → LacksOn case.report Rule (entries_of found) line
  here line l =
      subst (λ z. LacksOn z Rule (entries_of found) line) (sym same)
      (subst (λ z. LacksOn report Rule z line) (sym alike) l)

  there_is : (line : ℕ) → LacksOn case.report Rule (entries_of found) line → LacksOn report Rule all line
  there_is line l =
      subst (λ z. LacksOn report Rule z line) alike
      (subst (λ z. LacksOn z Rule (entries_of found) line) same l)
