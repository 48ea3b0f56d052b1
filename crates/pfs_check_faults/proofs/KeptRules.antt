-- A rule that is kept fails on no line.
use Rattle.std.proofs.Common.{◌≡◌, refl, ℕ, ◌+◌, ◌<◌, inl, inr, List, [], ◌∷◌, sym, ap, take, arith}
use Rattle.std.specs.Prelude.{Result, Ok, Err}
use Rattle.pfs_model.specs.declared.changes.Change.{Change}
use Rattle.pfs_model.specs.Chains.{Each, action_change, row_change}
use Rattle.pfs_model.specs.EntryPlaces.{Placed}
use Rattle.pfs_runs.specs.Labels.{before_action}
use Rattle.pfs_runs.specs.Rules.{given_by}
use Rattle.pfs_runs.specs.Runs.{all_blocks}
use Rattle.pfs_runs.specs.ScriptLines.{change_in}
use Rattle.pfs_check_faults.specs.declared.rules.Rule.{Rule}
use Rattle.pfs_check_faults.specs.declared.rules.Rule.TheVariants as rules
use Rattle.pfs_check_faults.proofs.ActedEntries.{HasAction, SaysAbove, blocks_acted}
use Rattle.pfs_check_faults.proofs.AnswersKept.{answered_reads, ends_right, phases_right}
use Rattle.pfs_check_faults.proofs.BlockCuts.{cut_law}
use Rattle.pfs_check_faults.proofs.ChainFacts.{action_one_change, chain_law, row_one_change}
use Rattle.pfs_check_faults.proofs.EntryFacts.{all_judge, all_numbered, all_see, long_rises, never_falls, none_lacks, none_unbrought}
use Rattle.pfs_check_faults.proofs.MovesKept.{none_moves_wrong}
use Rattle.pfs_check_faults.proofs.RisingFacts.{rising_law}
use Rattle.pfs_check_faults.proofs.SetCounts.{AreSets, sets_are}
use Rattle.pfs_check_faults.proofs.SetsOnce.{sets_once}
use Rattle.pfs_check_faults.proofs.TicketFacts.{tickets_have}
use Rattle.pfs_check_faults.specs.ActionFaults.{NeverFallsAt}
use Rattle.pfs_check_faults.specs.EntryFaults.{ActsAt, EventCauseAt, IsLinked, JudgesAt, LinksAt, NumbersAt, QueryCauseAt, RisesAt, SeesAt}
use Rattle.pfs_check_faults.specs.FinalFaults.{LostFail, TablesFail, lost_due}
use Rattle.pfs_check_faults.specs.Judgements.{Excludes, Keeps, LostOf, TablesOf, answers_by, so_far}
use Rattle.pfs_check_faults.specs.ReportCases.{AllHave, Case, Findings, entries_of, flags_in, terms_in}
use Rattle.pfs_check_faults.specs.RingFaults.{LongRisesAt, RingsAt, TicketsAt}
use Rattle.pfs_check_faults.specs.ShapeFaults.{report_cut}

all_act : (all earlier ps : List Placed) → AllHave (LinksAt action_change all) earlier ps → AllHave RisesAt earlier ps
    → AllHave (ActsAt all) earlier ps
all_act all earlier [] a b = tt
all_act all earlier (p ∷ ps) a b = (record { numbered = a.0; rises = b.0 }, all_act all (p ∷ earlier) ps a.1 b.1)

all_ring : (all earlier ps : List Placed) → AllHave (TicketsAt all) earlier ps → AllHave (LongRisesAt all) earlier ps
    → AllHave (EventCauseAt all) earlier ps → AllHave (RingsAt all) earlier ps
all_ring all earlier [] a b c = tt
all_ring all earlier (p ∷ ps) a b c =
    (record { ticketed = a.0; rises = b.0; caused = c.0 }, all_ring all (p ∷ earlier) ps a.1 b.1 c.1)

-- the numbers of actions are above 0
all_above : (all earlier ps : List Placed) → AllHave (LinksAt action_change all) earlier ps → Each SaysAbove ps
all_above all earlier [] h = tt
all_above all earlier (p ∷ ps) h = (one (action_change p.entry) h.0, all_above all (p ∷ earlier) ps h.1) where
  one : (changes : List Change) → Each (IsLinked action_change all earlier p) changes → Each (λ (change : Change). 0 < change.version) changes
  one [] h = tt
  one (change ∷ changes) h = (h.0.above, one changes h.1)

acted : (case : Case) (found : Findings) → Keeps rules.Shape case found → Keeps rules.Actions case found → Each HasAction (entries_of found)
acted case found shape actions =
    blocks_acted [] (all_blocks found.blocks) 0 shape.shaped
    (all_above (entries_of found) [] (entries_of found) ((chain_law action_change action_one_change (entries_of found)).0 actions.numbers))

are_sets : (case : Case) (found : Findings) → Keeps rules.Shape case found → Keeps rules.Actions case found → Keeps rules.Setup case found
    → AreSets (terms_in case found).asked (entries_of found)
are_sets case found shape actions setup = record {
  set = setup.asked;
  chained = setup.words;
  fall = setup.sets;
  acted = acted case found shape actions;
  once = sets_once case.setting (change_in case.phases) found.labels;
}

no_error : {A : Type 0} (x : A) (line : ℕ) (r : Result A ℕ) → r ≡ Ok x → r ≡ Err line → ⊥
no_error x line r a b = cc

pub excluded : (rule : Rule) → Excludes rule
excluded rules.Shape case found line before keeps f =
    no_error found.blocks line (report_cut case.phases case.report) ((cut_law case.phases case.report found.blocks).1 keeps) f
excluded rules.Actions case found line before keeps f =
    none_lacks (ActsAt (entries_of found)) [] (entries_of found) f.0
    (all_act (entries_of found) [] (entries_of found)
    ((chain_law action_change action_one_change (entries_of found)).0 keeps.numbers)
    ((rising_law (entries_of found)).0 keeps.rising)) f.2
excluded rules.Chain case found line before keeps f =
    none_lacks (LinksAt row_change (entries_of found)) [] (entries_of found) f.0
    ((chain_law row_change row_one_change (entries_of found)).0 keeps) f.2
excluded rules.Setup case found line before keeps f =
    f.wrong (ap (take (f.at + 1)) (sets_are (terms_in case found).asked (entries_of found)
    (are_sets case found (before rules.Shape (omega arith)) (before rules.Actions (omega arith)) keeps) f.number f.positive))
excluded rules.Seen case found line before keeps f =
    none_lacks (SeesAt (entries_of found)) [] (entries_of found) f.0 (all_see (entries_of found) [] (entries_of found) keeps.floored keeps.there keeps.slots) f.2
excluded rules.Verdict case found line before keeps f =
    none_lacks (JudgesAt (terms_in case found).stack (flags_in case found)) [] (entries_of found) f.0 (all_judge (terms_in case found).stack (flags_in case found) [] (entries_of found) keeps) f.2
excluded rules.Numbers case found line before keeps f =
    none_lacks (NumbersAt (terms_in case found).rooms (terms_in case found).answers) [] (entries_of found) f.0
    (all_numbered (terms_in case found).rooms (terms_in case found).answers [] (entries_of found) keeps.numbered keeps.answered) f.2
excluded rules.Moves case found line before keeps (inl f) =
    none_lacks (NeverFallsAt (entries_of found)) [] (entries_of found) f.0 (never_falls (entries_of found) [] (entries_of found) keeps.deeds (λ deed i. i)) f.2
excluded rules.Moves case found line before keeps (inr f) =
    none_moves_wrong case.report (given_by (terms_in case found) (all_blocks found.blocks)) (terms_in case found).asked found.counted found.content (entries_of found) line keeps.done keeps.found_is keeps.contents f
excluded rules.Rings case found line before keeps (inl f) =
    none_lacks (RingsAt (entries_of found)) [] (entries_of found) f.0
    (all_ring (entries_of found) [] (entries_of found) (tickets_have (entries_of found) keeps.ticketed)
    (long_rises (entries_of found) [] (entries_of found) keeps.risen (λ put i. i)) keeps.caused) f.2
excluded rules.Rings case found line before keeps (inr f) =
    none_unbrought (flags_in case found) [] (entries_of found) f.event f.at keeps.brought f.wrong
excluded rules.Queries case found line before keeps (inl f) =
    none_lacks (QueryCauseAt (entries_of found)) [] (entries_of found) f.0 keeps.caused f.2
excluded rules.Queries case found line before keeps (inr f) =
    phases_right case.setting (answers_by case found found.content)
    (answered_reads case.setting found.content (flags_in case found) (before_action case.setting (change_in case.phases) found.labels))
    case.phases case.report.phases found.blocks 2 line keeps.answered (f found.content (before rules.Moves (omega arith)).contents)
excluded rules.Tables case found line before keeps f =
    ends_right (TablesOf case found)
    (λ report. TablesFail case.setting found.content (flags_in case found) (so_far found report) report)
    (λ report first line right fail. fail.wrong (record { due = report.tables; right = right; alike = refl }))
    case.report.phases 2 line keeps (f found.content (before rules.Moves (omega arith)).contents)
excluded rules.Lost case found line before keeps f =
    ends_right (LostOf case found)
    (λ report. LostFail (lost_due case.setting (change_in case.phases) found.labels (so_far found report)) report)
    (λ report first line right fail. fail.wrong (ap (take (fail.at + 1)) (sym right)))
    case.report.phases 2 line keeps f
