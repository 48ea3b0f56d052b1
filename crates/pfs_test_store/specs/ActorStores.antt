-- What is known of an actor's store between two calls.
use Rattle.std.specs.Prelude.{ℕ, ◌≡◌, ◌≤◌, List, Option, Some, None, length}
use Rattle.atomic_table.specs.Seated.{TableId}
use Rattle.pfs_admin.specs.AdministrationStates.{State as Administration}
use Rattle.pfs_board_store.specs.WriterWords.{words_of}
use Rattle.pfs_levels.specs.Calls.{Call, Opening}
use Rattle.pfs_levels.specs.Views.{Store}
use Rattle.pfs_switches.specs.declared.switches.Writer.{Writer}

-- some calls have led to it, over the words of this table
abbrev pub IsBegun : (Opening → List Call → Type 0) → TableId → Type 0
IsBegun reached table = (start : Opening) × (calls : List Call) × reached start calls × (table ≡ start.switches.table)

-- it has no row in hand
abbrev pub IsIdle : (ℕ → Option ℕ) → Type 0
IsIdle hand = (r : ℕ) → hand r ≡ None

-- between two actions: the writer is of the store's words, and the administration has them as the writer knows them
pub record IsBetween (store : Store) (writer : Writer) (admin : Administration) : Type 0 where
  pub begun : IsBegun store.reached writer.switches
  pub wide : 160 ≤ length writer.view.seen
  pub idle : IsIdle store.hand
  pub lent : Some (words_of writer.view) ≡ Some admin.words
