-- What a list of labels makes of the administration: the fold of their actions from the opening.
use Rattle.std.specs.Prelude.{ℕ, ◌≡◌, List, [], ◌∷◌, ◌++◌}
use Rattle.pfs_board.specs.declared.view.Label.{Label}
use Rattle.pfs_classes.specs.declared.setting.Setting.{Setting}
use Rattle.pfs_admin.specs.declared.changes.Change.{Change}
use Rattle.pfs_admin.specs.declared.changes.Change.TheVariants.{Connect, Quit, Truncate, Setup}
use Rattle.pfs_admin.specs.AdministrationStates.{State, connected, has_quit}
use Rattle.pfs_admin.specs.SetupStatements.{has_changed}
use Rattle.pfs_admin.specs.OpeningState.{opened}
use Rattle.pfs_admin.specs.Truncations.{has_truncated}

-- the step of a session's change
abbrev pub stepped : State → ℕ → Change → State
stepped s session (Connect user host) = connected s session user host
stepped s session Quit = has_quit s session
stepped s session (Truncate what) = has_truncated s what
stepped s session (Setup what) = has_changed s what

-- the state behind the actions of these labels, the oldest first
unfoldable pub state_from : (Label → Change) → State → List Label → State
state_from change s [] = s
state_from change s (label ∷ labels) = state_from change (stepped s label.session (change label)) labels

abbrev pub state_of : Setting → (Label → Change) → List Label → State
state_of setting change labels = state_from change (opened setting) labels

-- an administration stands for these labels
abbrev pub StandsFor : Setting → (Label → Change) → List Label → State → Type 0
StandsFor setting change labels s = s ≡ state_of setting change labels

-- whatever a run names, an administration that stood for labels stands for one label more, of this session and with
-- this change
pub record Follows (session : ℕ) (what : Change) (old new : State) : Type 0 where
  pub stands : (setting : Setting) → (change : Label → Change) → (labels : List Label) → (label : Label)
      → label.session ≡ session → change label ≡ what → StandsFor setting change labels old
      → StandsFor setting change (labels ++ label ∷ []) new
