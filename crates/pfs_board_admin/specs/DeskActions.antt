-- An action over a board that keeps a desk, from its beginning to its end.
use Rattle.std.specs.Prelude.{ℕ, ◌≡◌, List, ◌∷◌, ◌++◌}
use Rattle.pfs_admin.specs.declared.changes.Change.{Change}
use Rattle.pfs_admin.specs.Fold.{StandsFor}
use Rattle.pfs_admin.specs.AdministrationStates.{State}
use Rattle.pfs_admin.specs.Works.{Made, Work, signs_calls, signs_entries, signs_of, flagging_calls, flagging_entries}
use Rattle.pfs_board.specs.declared.view.Label.{Label}
use Rattle.pfs_classes.specs.declared.setting.Setting.{Setting}
use Rattle.pfs_levels.specs.Calls.{Call, Enters, Leaves, Meets, action_in}
use Rattle.pfs_event.specs.declared.entry.Entry.{Entry}
use Rattle.pfs_levels.specs.Moves.{Move, AreMoves, moves_calls, moves_entries}
use Rattle.pfs_board_admin.specs.LabelWords.{version_after, AllKeepWords}

-- Behind these calls an actor made one action more, of this label, and nothing else: it found the labels of those
-- before it, for which this administration stood, met the writer, did what that administration asks for, and ended the
-- action. Its log got the action's entry and those of what it did, in their order. So an actor that kept to the words
-- of its labels does so still
pub record HasActed (setting : Setting) (change : Label → Change) (label : Label) (work : State → Work)
    (head : State → List Entry) (admin : State) (calls more : List Call) (before after : List Entry) : Type 0 where
  pub labels : List Label
  pub stands : StandsFor setting change labels admin
  pub seen : List ℕ
  pub moves : List Move
  pub made : List Made
  pub are_moves : AreMoves (work admin).moves moves
  pub signs_are : signs_of made ≡ (work admin).signs
  pub calls_are : more ≡ Leaves ∷ ((flagging_calls admin.words (work admin).flags ++ (signs_calls made ++ moves_calls moves))
      ++ Meets seen ∷ Enters label labels ∷ calls)
  pub entries_are : after ≡ before ++ (head admin ++ (moves_entries moves
      ++ (signs_entries made ++ flagging_entries admin.words (work admin).flags)))
  pub keeps : action_in calls ≡ 0 → AllKeepWords (version_after setting change) calls
      → AllKeepWords (version_after setting change) more
