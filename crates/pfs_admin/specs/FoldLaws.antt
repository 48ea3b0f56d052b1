-- Laws of the fold, and of the rows that an action names.
use Rattle.std.specs.Prelude.{ℕ, ◌≡◌, ◌<◌, ◌+◌, ◌==◌, ◌∷◌, if◌then◌else◌, List, [], length, map, Option, Some}
use Rattle.pfs_board.specs.declared.view.Label.{Label}
use Rattle.pfs_classes.specs.declared.setting.Setting.{Setting}
use Rattle.pfs_classes.specs.declared.setting.TableName.{TableName}
use Rattle.pfs_containers.specs.declared.containers.Seated.{Seated}
use Rattle.pfs_containers.specs.Administration.{Containers}
use Rattle.pfs_containers.specs.ContainerState.{IsInRange}
use Rattle.pfs_levels.specs.declared.answers.Word.{Word}
use Rattle.pfs_levels.specs.Flushes.{Ascends, from_of}
use Rattle.pfs_setups.specs.SetupRows.{naming_of}
use Rattle.pfs_admin.specs.declared.changes.Change.{Change}
use Rattle.pfs_admin.specs.declared.changes.SetupStatement.{SetupStatement}
use Rattle.pfs_admin.specs.SetupStatements.{flags_after, has_changed}
use Rattle.pfs_admin.specs.ConnectionAsks.{connect_work, quit_work, upper_tags}
use Rattle.pfs_admin.specs.Fold.{stepped, StandsFor, Follows}
use Rattle.pfs_admin.specs.OpeningState.{cells_of, kinds_of, table_flags}
use Rattle.pfs_admin.specs.AdministrationStates.{State, AreEarly, naming_in}
use Rattle.pfs_admin.specs.Truncations.{free_ring}
use Rattle.pfs_admin.specs.Works.{Sign, Releases, Tags, word_at}

abbrev pub StepLaw : Type 0
StepLaw = (session : ℕ) → (what : Change) → (s : State) → Follows session what s (stepped s session what)

abbrev pub CountLaw : Type 0
CountLaw = (setting : Setting) → (change : Label → Change) → (labels : List Label) → (s : State)
    → StandsFor setting change labels s
    → (s.actions ≡ length labels) × AreEarly (length labels) s.words

abbrev pub FixedLaw : Type 0
FixedLaw = (setting : Setting) → (change : Label → Change) → (labels : List Label) → (s : State)
    → StandsFor setting change labels s
    → (s.names ≡ setting.names) × (s.cells ≡ cells_of setting.classes) × (s.kinds ≡ kinds_of setting)
    × (naming_in s ≡ naming_of setting)

-- the row that a sign releases or writes
abbrev pub row_of : Sign → ℕ
row_of (Releases row) = row
row_of (Tags row content) = row

-- a connect's thread, account, user and host: rows 1 to 32, 33 to 64, 65 to 96 and 97 to 128
abbrev pub ConnectRows : Type 0
ConnectRows = (words : List Word) → (flags : ℕ) → (after : Containers) → (seat : Seated) → IsInRange seat
    → Ascends 1 129 (map row_of (connect_work words flags after (Some seat)).signs)

-- a quit's cells are rows 129 to 2176; its info rows are 1 to 128, and behind these it releases places of a ring, rows
-- 8450 to 10241
abbrev pub QuitRows : Type 0
QuitRows = (words : List Word) → (cells : List ℕ) → (after : Containers) → (seat : Seated) → IsInRange seat
    → Ascends 0 64 cells → Ascends 129 2177 (map from_of (quit_work words cells after (Some seat)).moves)
    × Ascends 1 10242 (map row_of (quit_work words cells after (Some seat)).signs)
    × Ascends 1 129 (map row_of (Releases (1 + seat.slot) ∷ upper_tags after seat.connection))
    × Ascends 8450 10242 (map row_of (free_ring seat.slot))

-- without any row of `setup_objects` no table is instrumented, whatever its name
abbrev pub NoRowLaw : Type 0
NoRowLaw = (table : Option TableName) → table_flags [] table ≡ 0

-- behind a statement on the setup tables each word of the 160 has the flags that the statement gives it, and a version
-- more exactly where they differ from those before
pub record EachWord (s : State) (what : SetupStatement) (at : ℕ) : Type 0 where
  pub flags : (word_at (has_changed s what).words at).flags ≡ flags_after s what at (word_at s.words at).flags
  pub version : (word_at (has_changed s what).words at).version
      ≡ (if flags_after s what at (word_at s.words at).flags == (word_at s.words at).flags then (word_at s.words at).version
      else (word_at s.words at).version + 1)

abbrev pub EachWordLaw : Type 0
EachWordLaw = (s : State) → length s.words ≡ 160 → (what : SetupStatement) → (at : ℕ) → at < 160 → EachWord s what at
