-- The fold of actions by one part more and by one spell more, for whoever runs sessions.
use Rattle.std.proofs.Common.{List, [], ◌∷◌, ◌++◌}
use Rattle.pfs_admin.specs.declared.changes.Change.{Change}
use Rattle.pfs_law_plain.specs.Spells.{Spell}
use Rattle.pfs_board.specs.declared.view.Label.{Label}
use Rattle.pfs_classes.specs.declared.setting.Setting.{Setting}
use Rattle.pfs_law_plain.specs.ActionFolds.{DoingsFolded, AreFolded, DoingsConnectFirst, AllConnectFirst}

pub spell_folded : (setting : Setting) (change : Label → Change) (spells : List Spell) (spell : Spell) → AreFolded setting change spells → DoingsFolded setting change spell.doings
    → AreFolded setting change (spells ++ spell ∷ [])
spell_folded setting change [] spell all one = (one, tt)
spell_folded setting change (x ∷ xs) spell all one = (all.0, spell_folded setting change xs spell all.1 one)

pub spell_first : (spells : List Spell) (spell : Spell) → AllConnectFirst spells → DoingsConnectFirst spell.doings → AllConnectFirst (spells ++ spell ∷ [])
spell_first [] spell all one = (one, tt)
spell_first (x ∷ xs) spell all one = (all.0, spell_first xs spell all.1 one)
