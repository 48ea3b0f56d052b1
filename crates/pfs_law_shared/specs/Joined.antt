-- All rules of a run, of sessions at once.
use Rattle.std.specs.Prelude.{ℕ, ◌≤◌, List}
use Rattle.pfs_admin.specs.OpeningState.{opening_flags}
use Rattle.pfs_admin.specs.declared.changes.Change.{Change}
use Rattle.pfs_board.specs.declared.view.Label.{Label}
use Rattle.pfs_classes.specs.declared.setting.Setting.{Setting}
use Rattle.pfs_law_plain.specs.ActionFolds.{AreFolded, AllConnectFirst}
use Rattle.pfs_law_plain.specs.RunRules.{journals_of, entries_of}
use Rattle.pfs_law_plain.specs.Spells.{Spell, AreSpells, stints_of}
use Rattle.pfs_law_session.specs.Amounts.{AllFacts, at_first}
use Rattle.pfs_law_session.specs.Stints.{parts_by}
use Rattle.pfs_law_session.specs.Takes.{all_taken, counted_by}
use Rattle.pfs_law_shared.specs.Order.{AreSingle}
use Rattle.pfs_law_shared.specs.Rules.{of_rows}
use Rattle.pfs_law_shared.specs.Shares.{AreShared}
use Rattle.pfs_law_shared.specs.Tickets.{AllPlaced}
use Rattle.pfs_matching.specs.ObjectRules.{opening_objects}
use Rattle.pfs_model.specs.Chains.{Each}
use Rattle.pfs_model.specs.Contents.{Facts}
use Rattle.pfs_runs.specs.Labels.{AreLabels, terms_of}
use Rattle.pfs_runs.specs.Rules.{AreRules}

-- the labels are those of the printed actions, and the journals keep the rules of a run
pub record AreJoined (setting : Setting) (change : Label → Change) (facts : ℕ → ℕ → Facts) (labels : List Label)
    (content : ℕ → ℕ → List ℕ) (spells : List Spell) : Type 0 where
  pub labelled : AreLabels labels (entries_of spells)
  pub rules : AreRules (terms_of setting change facts labels) (counted_by content (all_taken (stints_of spells)))
      content (journals_of spells)

-- with the labels and the contents that the sessions have in common at the end of their last phase
abbrev pub JoinedLaw : Type 0
JoinedLaw = (setting : Setting) (change : Label → Change) (facts : ℕ → ℕ → Facts) (depths : ℕ → ℕ) (spells : List Spell)
    (last : ℕ) → AreSpells setting.limits.statement_stack depths spells
    → (shared : AreShared (opening_flags setting opening_objects) spells) → AllPlaced spells
    → AreSingle spells → Each (λ spell. spell.phase ≤ last) spells → AreFolded setting change spells
    → AllConnectFirst spells
    → ((session : ℕ) → AllFacts (facts session) at_first (parts_by session (stints_of spells)))
    → AreJoined setting change facts (shared last).labels (of_rows (shared last).content) spells
