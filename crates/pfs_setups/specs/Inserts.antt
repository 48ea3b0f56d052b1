-- What an INSERT changes and answers: a row comes, unless its key is there or there are 100 rows.
use Rattle.std.specs.Prelude.{ℕ, ◌==◌, Bool, if◌then◌else◌, List, length, Result, Ok, Err}
use Rattle.std.specs.List.{list_any}
use Rattle.std.specs.Ordering.{is_eq}
use Rattle.pfs_exec.specs.declared.changes.NewRow.{NewRow}
use Rattle.pfs_exec.specs.declared.changes.NewRow.TheVariants.{Actor, Object}
use Rattle.pfs_matching.specs.declared.actor_rows.ActorRow.{ActorRow}
use Rattle.pfs_matching.specs.declared.object_rows.ObjectRow.{ObjectRow}
use Rattle.pfs_matching.specs.declared.faults.MatchFault.{MatchFault}
use Rattle.pfs_matching.specs.declared.faults.MatchFault.TheVariants.{Duplicate, Full}
use Rattle.pfs_matching.specs.ActorRules.{actor_key}
use Rattle.pfs_matching.specs.KeyedRows.{key_cmp, with_row}
use Rattle.pfs_matching.specs.ObjectRules.{object_key}
use Rattle.pfs_rows.specs.declared.table.Table.{Table}
use Rattle.pfs_setups.specs.Deletes.{flags_by_rows}
use Rattle.pfs_setups.specs.SetupRows.{Naming}

-- MySQL's numbers
abbrev pub error_number : MatchFault → ℕ
error_number Duplicate = 1062
error_number Full = 1114

-- the answer of an insertion: the number of rows, 1, or the number of the error
abbrev pub answer_of : Result (Unit {0}) MatchFault → Result ℕ ℕ
answer_of (Ok done) = Ok 1
answer_of (Err fault) = Err (error_number fault)

module _ {R : Type 0} (key : R → List (List ℕ)) where
  -- a row with this row's key is there
  abbrev pub has_key : List R → R → Bool
  has_key rows row = list_any (λ other. is_eq (key_cmp (key other) (key row))) rows

  -- a row with its key that is there goes before 100 rows
  abbrev pub answer_on : List R → R → Result ℕ ℕ
  answer_on rows row = if has_key rows row then Err 1062 else if length rows == 100 then Err 1114 else Ok 1

  abbrev pub added_by : Result ℕ ℕ → List R → R → List R
  added_by (Ok count) rows row = with_row key row rows
  added_by (Err error) rows row = rows

  -- an error changes nothing
  abbrev pub added : List R → R → List R
  added rows row = added_by (answer_on rows row) rows row

-- the answer of an INSERT
abbrev pub insert_answer : List ActorRow → List ObjectRow → NewRow → Result ℕ ℕ
insert_answer actors objects (Actor row) = answer_on actor_key actors row
insert_answer actors objects (Object row) = answer_on object_key objects row

-- the rows of the two tables behind it
unfoldable pub actors_inserted : List ActorRow → NewRow → List ActorRow
actors_inserted actors (Actor row) = added actor_key actors row
actors_inserted actors (Object row) = actors

unfoldable pub objects_inserted : List ObjectRow → NewRow → List ObjectRow
objects_inserted objects (Actor row) = objects
objects_inserted objects (Object row) = added object_key objects row

-- the flags of a word behind it, by the rows of `setup_objects` as they stand then: an error changes none
unfoldable pub flags_by_answer : Naming → List ObjectRow → Table → Result ℕ ℕ → ℕ → ℕ → ℕ
flags_by_answer n objects table (Ok count) word flags = flags_by_rows n objects table word flags
flags_by_answer n objects table (Err error) word flags = flags
