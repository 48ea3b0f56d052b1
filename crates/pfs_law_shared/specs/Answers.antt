-- What sessions at once answered as they ran, their journals show.
use Rattle.std.specs.Prelude.{ℕ, ◌≤◌, List}
use Rattle.pfs_admin.specs.OpeningState.{opening_flags}
use Rattle.pfs_admin.specs.declared.changes.Change.{Change}
use Rattle.pfs_board.specs.declared.view.Label.{Label}
use Rattle.pfs_classes.specs.declared.setting.Setting.{Setting}
use Rattle.pfs_law_plain.specs.ActionFolds.{AreFolded}
use Rattle.pfs_law_plain.specs.ShownAnswers.{IsShownIn}
use Rattle.pfs_law_plain.specs.Spells.{Spell, AreSpells}
use Rattle.pfs_law_shared.specs.Order.{AllNear}
use Rattle.pfs_law_shared.specs.Rules.{of_rows}
use Rattle.pfs_law_shared.specs.Shares.{AreShared}
use Rattle.pfs_matching.specs.ObjectRules.{opening_objects}
use Rattle.pfs_model.specs.Chains.{Each}
use Rattle.pfs_model.specs.Contents.{Facts}

-- by the labels and the contents that they have in common at the end of their last phase
abbrev pub ShownLaw : Type 0
ShownLaw = (setting : Setting) (change : Label → Change) (facts : ℕ → ℕ → Facts) (depths : ℕ → ℕ) (spells : List Spell)
    (last : ℕ) → AreSpells setting.limits.statement_stack depths spells
    → (shared : AreShared (opening_flags setting opening_objects) spells) → AllNear spells
    → Each (λ spell. spell.phase ≤ last) spells → AreFolded setting change spells
    → Each (IsShownIn setting change facts (shared last).labels (of_rows (shared last).content) spells) spells
