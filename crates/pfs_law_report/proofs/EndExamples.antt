-- A phase can end behind any sessions that ran up to it, and before any did: all that the laws ask of its end can hold.
use Rattle.std.proofs.Common.{ℕ, ◌≡◌, ◌≤◌, [], subst, sym}
use Rattle.pfs_admin.specs.declared.changes.Change.{Change}
use Rattle.pfs_law_plain.specs.Spells.{Spell, calls_of}
use Rattle.pfs_board.specs.declared.view.Label.{Label}
use Rattle.pfs_classes.specs.declared.setting.Setting.{Setting}
use Rattle.pfs_journal.specs.declared.report.PhaseParts.{PhaseParts}
use Rattle.pfs_model.specs.Chains.{Each}
use Rattle.pfs_model.specs.Contents.{Facts}
use Rattle.pfs_readsets.proofs.EqualReadings.{RowsArePlaces}
use Rattle.pfs_law_report.proofs.EndedPhases.{one_ended}
use Rattle.pfs_law_report.proofs.NextPhase.{ended_now}
use Rattle.pfs_law_report.proofs.StoreReadings.{report_behind, numbered, can_end}
use Rattle.pfs_law_report.specs.PhaseEnds.{HasEnded, IsFinalOf, CanEndLaw}

pub can_always_end : RowsArePlaces → CanEndLaw
can_always_end places = λ setting change facts depths spells number are answer low.
    let report : PhaseParts = report_behind setting change spells number in
    let is : report.number ≡ number = numbered setting change spells number in
    let up_to : Each (λ spell. spell.phase ≤ report.number) spells = subst (λ z. Each (λ (spell : Spell). spell.phase ≤ z) spells) (sym is) low in
    let end : HasEnded setting change spells report = ended_now setting change spells (calls_of spells) report up_to (can_end places setting change spells number answer) in
    (report, is, end, one_ended setting change facts depths spells report are answer end)

-- before any session did anything, in any setting
record IsFirst (setting : Setting) (change : Label → Change) (facts : ℕ → ℕ → Facts) : Type 0 where
  report : PhaseParts
  number : report.number ≡ 1
  ended : HasEnded setting change [] report
  final : IsFinalOf setting change facts [] report

first : RowsArePlaces → (setting : Setting) (change : Label → Change) (facts : ℕ → ℕ → Facts) → IsFirst setting change facts
first places setting change facts =
    let r = can_always_end places setting change facts (λ session. 0) [] 1 (record { stints = tt; entered = tt }) tt tt in
    record { report = r.0; number = r.1; ended = r.2; final = r.3 }
