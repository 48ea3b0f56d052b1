-- Changes of a setting with two classes, one of them without a place, and two tables, while one session is connected,
-- number by number.
use Rattle.std.specs.Prelude.{◌≡◌, ℕ, true, false, List, [], ◌∷◌, length, replicate, Option, Some, None, Ok, Err, codes}
use Rattle.pfs_text.specs.declared.conditions.Comparison.TheVariants.{Equal, AtLeast}
use Rattle.pfs_text.specs.declared.conditions.Literal.TheVariants.{Number as NumberLiteral, Text as TextLiteral}
use Rattle.pfs_text.specs.declared.conditions.Test.{Test}
use Rattle.pfs_text.specs.declared.conditions.TestKind.TheVariants.{Compare, IsNull}
use Rattle.pfs_rows.specs.declared.table.Table.TheVariants.{SetupObjects, SetupInstruments, SetupConsumers, Threads}
use Rattle.pfs_exec.specs.declared.changes.NewRow.TheVariants.{Actor}
use Rattle.pfs_containers.specs.declared.containers.Connection.{Connection}
use Rattle.pfs_matching.specs.declared.actor_rows.ActorRow.{ActorRow}
use Rattle.pfs_matching.specs.declared.faults.FlagChange.{FlagChange}
use Rattle.pfs_matching.specs.ActorRules.{opening_actors}
use Rattle.pfs_matching.specs.ObjectRules.{opening_objects}
use Rattle.pfs_setups.specs.Deletes.{flags_by_rows, objects_left}
use Rattle.pfs_setups.specs.Inserts.{actors_inserted, insert_answer}
use Rattle.pfs_setups.specs.SetupRows.{Naming, held_met, rows_met}
use Rattle.pfs_setups.specs.Updates.{flags_on, objects_updated}

-- class 0 is registered, class 1 isn't; table 0 is d.t, table 1 is mysql.x
abbrev pub sample : Naming
sample = record {
  names = codes "u" ∷ codes "h" ∷ codes "wait/io/file/sql/binlog" ∷ [];
  classes = Some 2 ∷ None ∷ [];
  tables = record { schema = codes "d"; name = codes "t" } ∷ record { schema = codes "mysql"; name = codes "x" } ∷ [];
}

-- session 7 of u and h in slot 0, nobody in slot 1
abbrev pub seated : List (Option Connection)
seated = Some (record {
  number = 7;
  user_name = 0;
  host_name = 1;
  account = None;
  user = None;
  host = None;
}) ∷ None ∷ []

abbrev pub on : FlagChange
on = record { first = Some true; second = None }

abbrev pub second_off : FlagChange
second_off = record { first = None; second = Some false }

-- the column at a place has this text
abbrev pub has_text : ℕ → List ℕ → List Test
has_text column text = record { column = column; kind = Compare Equal (TextLiteral text) } ∷ []

abbrev pub an_actor : List ℕ → ActorRow
an_actor user = record { host = codes "%"; user = user; role = codes "%"; enabled = false; history = false }

pub record WorkedChanges : Type 0 where
  -- a consumer is turned on, once and for all: the second update meets the row again, and changes nothing
  pub consumer : flags_on sample seated [] SetupConsumers on (has_text 0 (codes "events_waits_current")) 0 28888 ≡ 29400
  pub again : flags_on sample seated [] SetupConsumers on (has_text 0 (codes "events_waits_current")) 0 29400 ≡ 29400
  pub consumers_met : rows_met sample seated [] [] (29400 ∷ []) SetupConsumers
      (has_text 0 (codes "events_waits_current")) ≡ 1
  pub consumers_off : rows_met sample seated [] [] (28888 ∷ []) SetupConsumers (has_text 1 (codes "NO")) ≡ 8
  -- a thread's HISTORY goes; a slot that nobody has stays
  pub thread : flags_on sample seated [] Threads second_off (has_text 1 (codes "u")) 1 3 ≡ 1
  pub other_user : flags_on sample seated [] Threads second_off (has_text 1 (codes "v")) 1 3 ≡ 3
  pub by_number : flags_on sample seated [] Threads second_off
      (record { column = 0; kind = Compare AtLeast (NumberLiteral 7) } ∷ []) 1 3 ≡ 1
  pub nobody : flags_on sample seated [] Threads second_off [] 2 3 ≡ 3
  -- every class that is registered is met without a condition, and no other; no value is NULL
  pub class : flags_on sample seated [] SetupInstruments on [] 33 2 ≡ 3
  pub unregistered : flags_on sample seated [] SetupInstruments on [] 34 0 ≡ 0
  pub null : flags_on sample seated [] SetupInstruments on (record { column = 0; kind = IsNull } ∷ []) 33 2 ≡ 2
  -- without TIMED for any schema d.t isn't timed, and mysql.x is as it was; five rows are met, one of each kind
  pub objects : held_met SetupObjects (has_text 1 (codes "%")) [] opening_objects ≡ 5
  pub table : flags_on sample seated (objects_updated SetupObjects (has_text 1 (codes "%")) second_off opening_objects)
      SetupObjects second_off (has_text 1 (codes "%")) 96 3 ≡ 1
  pub mysql : flags_on sample seated (objects_updated SetupObjects (has_text 1 (codes "%")) second_off opening_objects)
      SetupObjects second_off (has_text 1 (codes "%")) 97 0 ≡ 0
  -- without the rows of type TABLE no table is on
  pub left : length (objects_left SetupObjects (has_text 0 (codes "TABLE")) opening_objects) ≡ 16
  pub off : flags_by_rows sample (objects_left SetupObjects (has_text 0 (codes "TABLE")) opening_objects)
      SetupObjects 96 3 ≡ 0
  pub no_table : flags_by_rows sample [] SetupObjects 98 3 ≡ 3
  -- a key that is there is refused; another row comes at its place
  pub twice : insert_answer opening_actors [] (Actor (an_actor (codes "%"))) ≡ Err 1062
  pub stays : actors_inserted opening_actors (Actor (an_actor (codes "%"))) ≡ opening_actors
  pub once : insert_answer opening_actors [] (Actor (an_actor (codes "a"))) ≡ Ok 1
  -- of 100 rows one whose key is there is refused for that
  pub full : insert_answer (replicate 100 (an_actor (codes "a"))) [] (Actor (an_actor (codes "b"))) ≡ Err 1114
  pub full_twice : insert_answer (replicate 100 (an_actor (codes "a"))) [] (Actor (an_actor (codes "a"))) ≡ Err 1062
  pub comes : actors_inserted [] (Actor (an_actor (codes "a"))) ≡ an_actor (codes "a") ∷ []
