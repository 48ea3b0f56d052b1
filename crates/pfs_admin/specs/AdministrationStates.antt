-- The administration's state, and its steps.
use Rattle.std.specs.Prelude.{ℕ, ◌≡◌, ◌+◌, ◌==◌, ◌≤◌, ◌<◌, Bool, if◌then◌else◌, List, [], ◌∷◌, length, All, Option, Some, None}
use Rattle.std.specs.List.{slice_index_or}
use Rattle.pfs_classes.specs.declared.setting.TableName.{TableName}
use Rattle.pfs_containers.specs.Administration.{found_where}
use Rattle.pfs_containers.specs.declared.containers.Seated.{Seated}
use Rattle.pfs_containers.specs.ContainerState.{Kept, with_connect, with_quit, seat_of, seated}
use Rattle.pfs_matching.specs.declared.actor_rows.ActorRow.{ActorRow}
use Rattle.pfs_matching.specs.declared.object_rows.ObjectRow.{ObjectRow}
use Rattle.pfs_matching.specs.ActorRules.{actor_flags}
use Rattle.pfs_levels.specs.declared.answers.Word.{Word}
use Rattle.pfs_rows.specs.declared.table.TableKind.{TableKind}
use Rattle.pfs_rows.specs.declared.table.TableKind.TheVariants.{Waits, Stages, Statements, Transactions}
use Rattle.pfs_setups.specs.SetupRows.{Naming}
use Rattle.pfs_admin.specs.Works.{flagged}

-- the cells of the registered classes of each kind of event, ascending; and how many digest texts have a place
pub record KindCells : Type 0 where
  pub waits : List ℕ
  pub stages : List ℕ
  pub statements : List ℕ
  pub transactions : List ℕ
  pub digests : ℕ

abbrev pub kind_cells : KindCells → TableKind → List ℕ
kind_cells k Waits = k.waits
kind_cells k Stages = k.stages
kind_cells k Statements = k.statements
kind_cells k Transactions = k.transactions

-- who is connected where; the switch words; the rows of setup_actors and setup_objects. The names by id, of each class
-- by id the id of its name, the tables by number, and the cells of the registered classes, all and by their kinds,
-- ascending, never change, nor does how many digests have a place. And how many actions there were.
pub record State : Type 0 where
  pub kept : Kept
  pub words : List Word
  pub actors : List ActorRow
  pub objects : List ObjectRow
  pub names : List (List ℕ)
  pub classes : List (Option ℕ)
  pub tables : List TableName
  pub cells : List ℕ
  pub kinds : KindCells
  pub actions : ℕ

-- what the rows of the setup tables are named by
abbrev pub naming_in : State → Naming
naming_in s = record { names = s.names; classes = s.classes; tables = s.tables }

abbrev pub flags_of : Bool × Bool → ℕ
flags_of pair = (if pair.0 then 1 else 0) + (if pair.1 then 2 else 0)

abbrev pub name_text : State → ℕ → List ℕ
name_text s id = slice_index_or s.names id []

-- the flags of a new session's thread: what setup_actors decides for its user and host
abbrev pub thread_flags : State → ℕ → ℕ → ℕ
thread_flags s user host = flags_of (actor_flags s.actors (name_text s user) (name_text s host))

-- the words with those of a slot's thread, where there is one
abbrev pub words_by : List Word → ℕ → Option Seated → List Word
words_by words flags None = words
words_by words flags (Some seat) = flagged words (1 + seat.slot) flags

abbrev pub seat_at : State → ℕ → ℕ → ℕ → Option Seated
seat_at s number user host = seat_of s.kept.now number user host

abbrev pub seat_in : State → ℕ → Option Seated
seat_in s number = seated (found_where (λ x. x.number == number) s.kept.now.places.threads)

abbrev pub connected : State → ℕ → ℕ → ℕ → State
connected s number user host = record s {
  kept = with_connect s.kept number user host;
  words = words_by s.words (thread_flags s user host) (seat_at s number user host);
  actions = s.actions + 1;
}

abbrev pub has_quit : State → ℕ → State
has_quit s number = record s {
  kept = with_quit s.kept number;
  words = words_by s.words 0 (seat_in s number);
  actions = s.actions + 1;
}

-- no word was set more often than there were actions
abbrev pub AreEarly : ℕ → List Word → Type 0
AreEarly most [] = Unit {0}
AreEarly most (word ∷ words) = (word.version ≤ most) × AreEarly most words

-- the cells of each kind are below 64; a class is of one kind, and `transaction` has two cells; digests have 64 places
-- at most
pub record AreKindCells (k : KindCells) : Type 0 where
  pub small : (kind : TableKind) → All (λ cell. cell < 64) (kind_cells k kind)
  pub few : (kind : TableKind) → length (kind_cells k kind) ≤ 64
  pub few_together : length k.waits + (length k.stages + (length k.statements + length k.transactions)) ≤ 66
  pub digests_few : k.digests ≤ 64

-- what always holds
pub record IsState (s : State) : Type 0 where
  pub words_wide : length s.words ≡ 160
  pub words_early : AreEarly s.actions s.words
  pub connects_few : s.kept.connects ≤ s.actions
  pub cells_small : All (λ cell. cell < 64) s.cells
  pub cells_few : length s.cells ≤ 64
  pub kinds_are : AreKindCells s.kinds
