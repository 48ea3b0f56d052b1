-- Actions whose administration is the fold of the actions before them.
use Rattle.std.specs.Prelude.{◌≡◌, List, [], ◌∷◌}
use Rattle.pfs_admin.specs.Fold.{state_of}
use Rattle.pfs_admin.specs.declared.changes.Change.{Change}
use Rattle.pfs_admin.specs.declared.changes.Change.TheVariants.{Connect, Quit, Truncate, Setup}
use Rattle.pfs_admin.specs.declared.changes.SetupStatement.TheVariants.{Show}
use Rattle.pfs_law_plain.specs.Spells.{Doing, Spell}
use Rattle.pfs_board.specs.declared.view.Label.{Label}
use Rattle.pfs_classes.specs.declared.setting.Setting.{Setting}
use Rattle.pfs_law_session.specs.Deeds.{Deed, Connecting, Starting, Staging, StageEnding, Ending, Spending, Quitting, Truncating, Changing, Showing, Querying, Refusing, Closing}

-- an action that entered with this label, behind those, names the administration that they make, and its change is
-- that of its label
abbrev pub FoldsTo : Setting → (Label → Change) → Label → List Label → Deed → Type 0
FoldsTo setting change label labels (Connecting admin user host) =
    (admin ≡ state_of setting change labels) × (change label ≡ Connect user host)
FoldsTo setting change label labels (Quitting admin) =
    (admin ≡ state_of setting change labels) × (change label ≡ Quit)
FoldsTo setting change label labels (Truncating admin what) =
    (admin ≡ state_of setting change labels) × (change label ≡ Truncate what)
FoldsTo setting change label labels (Changing admin what) =
    (admin ≡ state_of setting change labels) × (change label ≡ Setup what)
FoldsTo setting change label labels (Showing admin count) =
    (admin ≡ state_of setting change labels) × (change label ≡ Setup Show)
FoldsTo setting change label labels (Querying readings count) = Unit {0}
FoldsTo setting change label labels (Refusing error) = Unit {0}
FoldsTo setting change label labels (Starting subject) = Unit {0}
FoldsTo setting change label labels (Staging subject) = Unit {0}
FoldsTo setting change label labels StageEnding = Unit {0}
FoldsTo setting change label labels (Ending numbers) = Unit {0}
FoldsTo setting change label labels (Spending time) = Unit {0}
FoldsTo setting change label labels Closing = Unit {0}

abbrev pub IsFolded : Setting → (Label → Change) → Doing → Type 0
IsFolded setting change doing = FoldsTo setting change doing.label doing.labels doing.part.deed

abbrev pub DoingsFolded : Setting → (Label → Change) → List Doing → Type 0
DoingsFolded setting change [] = Unit {0}
DoingsFolded setting change (doing ∷ doings) = IsFolded setting change doing × DoingsFolded setting change doings

abbrev pub AreFolded : Setting → (Label → Change) → List Spell → Type 0
AreFolded setting change [] = Unit {0}
AreFolded setting change (spell ∷ spells) =
    DoingsFolded setting change spell.doings × AreFolded setting change spells

-- a session connects with its first action, so at most once
abbrev pub ConnectsFirst : Label → Deed → Type 0
ConnectsFirst label (Connecting admin user host) = label.line ≡ 1
ConnectsFirst label (Quitting admin) = Unit {0}
ConnectsFirst label (Truncating admin what) = Unit {0}
ConnectsFirst label (Changing admin what) = Unit {0}
ConnectsFirst label (Showing admin count) = Unit {0}
ConnectsFirst label (Querying readings count) = Unit {0}
ConnectsFirst label (Refusing error) = Unit {0}
ConnectsFirst label (Starting subject) = Unit {0}
ConnectsFirst label (Staging subject) = Unit {0}
ConnectsFirst label StageEnding = Unit {0}
ConnectsFirst label (Ending numbers) = Unit {0}
ConnectsFirst label (Spending time) = Unit {0}
ConnectsFirst label Closing = Unit {0}

abbrev pub DoingsConnectFirst : List Doing → Type 0
DoingsConnectFirst [] = Unit {0}
DoingsConnectFirst (doing ∷ doings) = ConnectsFirst doing.label doing.part.deed × DoingsConnectFirst doings

abbrev pub AllConnectFirst : List Spell → Type 0
AllConnectFirst [] = Unit {0}
AllConnectFirst (spell ∷ spells) = DoingsConnectFirst spell.doings × AllConnectFirst spells
