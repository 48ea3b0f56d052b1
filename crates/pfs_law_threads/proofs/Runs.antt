-- Sessions of a script at once are a run of it.
use Rattle.std.proofs.Common.{ℕ, ◌≤◌, Bool, List, [], ◌∷◌, length, sym, subst}
use Rattle.pfs_admin.specs.OpeningState.{opening_flags}
use Rattle.pfs_admin.specs.declared.changes.Change.{Change}
use Rattle.pfs_board.specs.declared.view.Label.{Label}
use Rattle.pfs_classes.specs.declared.setting.Setting.{Setting}
use Rattle.pfs_journal.specs.declared.report.PhaseParts.{PhaseParts}
use Rattle.pfs_law_plain.specs.RunRules.{entries_of}
use Rattle.pfs_law_plain.specs.Spells.{Spell, AreSpells, stints_of}
use Rattle.pfs_law_script.specs.WholeCourse.{AreKept, FactsLaw, IsFinalBy}
use Rattle.pfs_law_script.specs.WholeCourse.{RunLaw as KeptRunLaw}
use Rattle.pfs_law_session.specs.Takes.{all_taken, counted_by}
use Rattle.pfs_law_shared.specs.Answers.{ShownLaw}
use Rattle.pfs_law_shared.specs.Ends.{EndsLaw}
use Rattle.pfs_law_shared.specs.Joined.{AreJoined, JoinedLaw}
use Rattle.pfs_law_shared.specs.Journals.{AgreedLaw, HaveAgreed}
use Rattle.pfs_law_shared.specs.Order.{AllNear, NearbyLaw}
use Rattle.pfs_law_shared.specs.Rules.{of_rows}
use Rattle.pfs_law_shared.specs.Shares.{AreShared}
use Rattle.pfs_matching.specs.ObjectRules.{opening_objects}
use Rattle.pfs_model.specs.Chains.{Each}
use Rattle.pfs_runs.specs.Runs.{AreFinal}
use Rattle.pfs_runs.specs.ScriptLines.{change_in, facts_in}
use Rattle.pfs_script.specs.declared.blocks.Phase.{Phase}
use Rattle.pfs_law_threads.specs.Runs.{HasEnded, RunLaw}
use Rattle.pfs_law_threads.proofs.LastPhases.{all_low}

-- the end of each phase, behind the spells up to it
module _ (ends : EndsLaw) (setting : Setting) (phases : List Phase) (depths : ℕ → ℕ) (last : ℕ) where
  abbrev Finals : List Spell → PhaseParts → Type 0
  Finals spells report =
      AreSpells setting.limits.statement_stack depths spells → (shared : AreShared (opening_flags setting opening_objects) spells) → AllNear spells
      → Each (λ spell. spell.phase ≤ last) spells → IsFinalBy setting phases (shared last).labels (of_rows (shared last).content) (entries_of spells) report

  one_final : (spells : List Spell) (report : PhaseParts) → HasEnded setting (change_in phases) spells report → Finals spells report
  one_final spells report h =
      subst (λ z. Finals z report) (sym h.parted)
      (λ are shared near low. ends setting (change_in phases) (facts_in phases) depths h.first h.later last report are shared near low h.low h.high h.ended)

  all_final : (spells : List Spell) (reports : List PhaseParts) (are : AreSpells setting.limits.statement_stack depths spells) (shared : AreShared (opening_flags setting opening_objects) spells)
      → AllNear spells → Each (λ spell. spell.phase ≤ last) spells → AreFinal (HasEnded setting (change_in phases) spells) reports
      → AreFinal (IsFinalBy setting phases (shared last).labels (of_rows (shared last).content) (entries_of spells)) reports
  all_final spells [] are shared near low ended = tt
  all_final spells (report ∷ reports) are shared near low ended =
      (one_final spells report ended.0 are shared near low, all_final spells reports are shared near low ended.1)

pub run_at_once : FactsLaw → KeptRunLaw → AgreedLaw → EndsLaw → JoinedLaw → NearbyLaw → ShownLaw → RunLaw
run_at_once facts_law run agreed ends joined nearby shown = λ setting phases report depths spells at told format ended.
    (let flags : List ℕ = opening_flags setting opening_objects in
    let stack : ℕ = setting.limits.statement_stack in
    let change : Label → Change = change_in phases in
    let last : ℕ = length phases in
    let low : Each (λ spell. spell.phase ≤ last) spells = all_low phases spells at.course.blocks in
    let near : AllNear spells = nearby setting change flags stack depths spells last at.course.are_spells at.course.folded at.shared low in
    let labels : List Label = (at.shared last).labels in
    let content : ℕ → ℕ → List ℕ = of_rows (at.shared last).content in
    let counted : ℕ → ℕ → Bool = counted_by content (all_taken (stints_of spells)) in
    let rules : AreJoined setting change (facts_in phases) labels content spells =
    joined setting change (facts_in phases) depths spells last at.course.are_spells at.shared at.placed at.single low at.course.folded at.course.first (facts_law setting phases depths spells at.course.are_spells at.course.blocks) in
    let agree : HaveAgreed flags stack last spells at.shared = agreed flags stack depths spells last at.course.are_spells.stints at.shared low in
    let kept : AreKept setting phases labels counted content spells = record {
      labelled = rules.labelled;
      rules = rules.rules;
      loads = agree.loads;
      shown = shown setting change (facts_in phases) depths spells last at.course.are_spells at.shared near low at.course.folded;
    } in
    (run setting phases report depths labels counted content spells at.course.are_spells at.course.first at.course.blocks kept told format
    (all_final ends setting phases depths last spells report.phases at.course.are_spells at.shared near low ended)).run)
