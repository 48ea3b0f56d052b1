-- The rows that the administration holds have only texts of a report, behind whatever a script's actions did.
use Rattle.std.proofs.Common.{ℕ, ◌≡◌, Bool, true, false, ◌&&◌, List, [], ◌∷◌, map, Result, Ok, Err, refl}
use Rattle.std.specs.Prelude.{codes, if◌then◌else◌, not}
use Rattle.std.specs.List.{All, AllByRecursion, list_all}
use Rattle.std.proofs.lemmas.Bool.{and_parts}
use Rattle.pfs_admin.specs.Fold.{state_from, state_of, stepped}
use Rattle.pfs_admin.specs.OpeningState.{opened}
use Rattle.pfs_admin.specs.SetupStatements.{actors_after, objects_after}
use Rattle.pfs_admin.specs.AdministrationStates.{State}
use Rattle.pfs_admin.specs.Truncations.{actors_behind, objects_behind}
use Rattle.pfs_admin.specs.declared.changes.Change.{Change}
use Rattle.pfs_admin.specs.declared.changes.Change.TheVariants.{Connect, Quit, Truncate, Setup}
use Rattle.pfs_admin.specs.declared.changes.SetupStatement.{SetupStatement}
use Rattle.pfs_admin.specs.declared.changes.SetupStatement.TheVariants as statements
use Rattle.pfs_board.specs.declared.view.Label.{Label}
use Rattle.pfs_exec.specs.declared.changes.NewRow.{NewRow}
use Rattle.pfs_exec.specs.declared.changes.NewRow.TheVariants.{Actor, Object}
use Rattle.pfs_classes.specs.declared.setting.Setting.{Setting}
use Rattle.pfs_journal.specs.Reports.{IsRow, IsText, is_text_byte}
use Rattle.pfs_matching.specs.ActorRules.{actor_key, changed_actor}
use Rattle.pfs_matching.specs.KeyedRows.{comes_before, with_row}
use Rattle.pfs_matching.specs.ObjectRules.{changed_object, kind_name, object_key, opening_objects}
use Rattle.pfs_matching.specs.declared.actor_rows.ActorRow.{ActorRow}
use Rattle.pfs_matching.specs.declared.faults.FlagChange.{FlagChange}
use Rattle.pfs_matching.specs.declared.object_rows.ObjectKind.{ObjectKind}
use Rattle.pfs_matching.specs.declared.object_rows.ObjectKind.TheVariants.{Event, Function, Procedure, Table as TableObject, Trigger}
use Rattle.pfs_matching.specs.declared.object_rows.ObjectRow.{ObjectRow}
use Rattle.pfs_model.specs.Chains.{Each}
use Rattle.pfs_exec.specs.RequestLaws.{EachText}
use Rattle.pfs_rows.specs.declared.table.Table.{Table}
use Rattle.pfs_rows.specs.declared.table.Table.TheVariants.{SetupActors, SetupObjects}
use Rattle.pfs_setups.specs.Deletes.{actors_left, objects_left}
use Rattle.pfs_setups.specs.Inserts.{added_by, actors_inserted, answer_on, objects_inserted}
use Rattle.pfs_setups.specs.SetupRows.{actor_meets, object_meets}
use Rattle.pfs_setups.specs.Updates.{actors_updated, objects_updated, updated_actor, updated_object}
use Rattle.pfs_setups.specs.HeldRows.{actor_values, held_rows, object_values}
use Rattle.pfs_text.specs.declared.conditions.Test.{Test}
use Rattle.pfs_rows.specs.declared.truncations.Truncation.{Truncation}
use Rattle.pfs_rows.specs.declared.truncations.Truncation.TheVariants as truncations
use Rattle.pfs_law_report.proofs.TableRows.{rows_good}
use Rattle.pfs_law_report.proofs.SqlTexts.{IsCleanChange, IsCleanStatement, kept_each}
use Rattle.pfs_law_report.proofs.FinalTables.{IsLegible, flag_text, passed}

abbrev IsCleanActor : ActorRow → Type 0
IsCleanActor row = IsText row.host × IsText row.user × IsText row.role

abbrev IsCleanObject : ObjectRow → Type 0
IsCleanObject row = IsText row.schema × IsText row.name

abbrev pub AreClean : List ActorRow → List ObjectRow → Type 0
AreClean actors objects = Each IsCleanActor actors × Each IsCleanObject objects

-- ---- what is shown of them

kind_text : (kind : ObjectKind) → IsText (kind_name kind)
kind_text Event = passed is_text_byte (kind_name Event) refl
kind_text Function = passed is_text_byte (kind_name Function) refl
kind_text Procedure = passed is_text_byte (kind_name Procedure) refl
kind_text TableObject = passed is_text_byte (kind_name TableObject) refl
kind_text Trigger = passed is_text_byte (kind_name Trigger) refl

actors_legible : (actors : List ActorRow) → Each IsCleanActor actors
    → AllByRecursion IsLegible (map actor_values actors)
actors_legible [] clean = tt
actors_legible (row ∷ actors) clean =
    let own : IsCleanActor row = clean.0 in
    ((own.0, (own.1, (own.2, (flag_text row.enabled, (flag_text row.history, tt))))), actors_legible actors clean.1)

objects_legible : (objects : List ObjectRow) → Each IsCleanObject objects
    → AllByRecursion IsLegible (map object_values objects)
objects_legible [] clean = tt
objects_legible (row ∷ objects) clean =
    let own : IsCleanObject row = clean.0 in (
      (
        kind_text row.kind,
        (
          own.0,
          (
            own.1,
            (
              flag_text row.enabled,
              (flag_text row.timed, tt),
            ),
          ),
        ),
      ),
      objects_legible objects clean.1,
    )

held_legible : (table : Table) (actors : List ActorRow) (objects : List ObjectRow) → AreClean actors objects
    → AllByRecursion IsLegible (held_rows table actors objects)
held_legible SetupActors actors objects clean = actors_legible actors clean.0
held_legible SetupObjects actors objects clean = objects_legible objects clean.1
held_legible _ actors objects clean = tt

pub held_good : (table : Table) (actors : List ActorRow) (objects : List ObjectRow) → AreClean actors objects
    → All IsRow (held_rows table actors objects)
held_good table actors objects clean = rows_good (held_rows table actors objects)
    (held_legible table actors objects clean)

-- ---- what an action makes of them

mapped_each : {A : Type 0} (P : A → Type 0) (f : A → A) → ((x : A) → P x → P (f x)) → (xs : List A) → Each P xs
    → Each P (map f xs)
mapped_each P f so [] h = tt
mapped_each P f so (x ∷ xs) h = (so x h.0, mapped_each P f so xs h.1)

-- a row comes between others, or they stay
module _ {R : Type 0} (key : R → List (List ℕ)) (P : R → Type 0) where
  with_row_each : (new : R) (rows : List R) → P new → Each P rows → Each P (with_row key new rows)
  with_row_each new [] own h = (own, tt)
  with_row_each new (row ∷ rows) own h = at (comes_before key row new) (with_row_each new rows own h.1)
    where
      at : (before : Bool) → Each P (with_row key new rows)
          → Each P (if before then row ∷ with_row key new rows else new ∷ row ∷ rows)
      at true behind = (h.0, behind)
      at false behind = (own, h)

  added_each : (answer : Result ℕ ℕ) (rows : List R) (new : R) → P new → Each P rows
      → Each P (added_by key answer rows new)
  added_each (Ok count) rows new own h = with_row_each new rows own h
  added_each (Err error) rows new own h = h

updated_actor_clean : (tests : List Test) (change : FlagChange) (row : ActorRow) → IsCleanActor row
    → IsCleanActor (updated_actor tests change row)
updated_actor_clean tests change row clean = at (actor_meets tests row)
  where
    at : (met : Bool) → IsCleanActor (if met then changed_actor change row else row)
    at true = clean
    at false = clean

updated_object_clean : (tests : List Test) (change : FlagChange) (row : ObjectRow) → IsCleanObject row
    → IsCleanObject (updated_object tests change row)
updated_object_clean tests change row clean = at (object_meets tests row)
  where
    at : (met : Bool) → IsCleanObject (if met then changed_object change row else row)
    at true = clean
    at false = clean

actors_updated_clean : (table : Table) (tests : List Test) (change : FlagChange) (actors : List ActorRow)
    → Each IsCleanActor actors → Each IsCleanActor (actors_updated table tests change actors)
actors_updated_clean SetupActors tests change actors clean = mapped_each IsCleanActor (updated_actor tests change)
    (updated_actor_clean tests change) actors clean
actors_updated_clean _ tests change actors clean = clean

objects_updated_clean : (table : Table) (tests : List Test) (change : FlagChange) (objects : List ObjectRow)
    → Each IsCleanObject objects → Each IsCleanObject (objects_updated table tests change objects)
objects_updated_clean SetupObjects tests change objects clean = mapped_each IsCleanObject
    (updated_object tests change) (updated_object_clean tests change) objects clean
objects_updated_clean _ tests change objects clean = clean

actors_inserted_clean : (actors : List ActorRow) (row : NewRow) → Each IsCleanActor actors → EachText IsText row
    → Each IsCleanActor (actors_inserted actors row)
unfolding actors_inserted
actors_inserted_clean actors (Actor row) clean own = added_each actor_key IsCleanActor
    (answer_on actor_key actors row) actors row own clean
actors_inserted_clean actors (Object row) clean own = clean

objects_inserted_clean : (objects : List ObjectRow) (row : NewRow) → Each IsCleanObject objects → EachText IsText row
    → Each IsCleanObject (objects_inserted objects row)
unfolding objects_inserted
objects_inserted_clean objects (Actor row) clean own = clean
objects_inserted_clean objects (Object row) clean own = added_each object_key IsCleanObject
    (answer_on object_key objects row) objects row own clean

actors_left_clean : (table : Table) (tests : List Test) (actors : List ActorRow) → Each IsCleanActor actors
    → Each IsCleanActor (actors_left table tests actors)
actors_left_clean SetupActors tests actors clean = kept_each IsCleanActor
    (λ row. not (actor_meets tests row)) actors clean
actors_left_clean _ tests actors clean = clean

objects_left_clean : (table : Table) (tests : List Test) (objects : List ObjectRow) → Each IsCleanObject objects
    → Each IsCleanObject (objects_left table tests objects)
objects_left_clean SetupObjects tests objects clean = kept_each IsCleanObject
    (λ row. not (object_meets tests row)) objects clean
objects_left_clean _ tests objects clean = clean

after_clean : (what : SetupStatement) (actors : List ActorRow) (objects : List ObjectRow) → AreClean actors objects
    → IsCleanStatement what → AreClean (actors_after what actors) (objects_after what objects)
after_clean (statements.Update update) actors objects clean own =
    (actors_updated_clean update.table update.tests update.change actors clean.0, objects_updated_clean update.table update.tests update.change objects clean.1)
after_clean (statements.Insert insert) actors objects clean own =
    (actors_inserted_clean actors insert.row clean.0 own, objects_inserted_clean objects insert.row clean.1 own)
after_clean (statements.Delete delete) actors objects clean own =
    (actors_left_clean delete.table delete.tests actors clean.0, objects_left_clean delete.table delete.tests objects clean.1)
after_clean statements.Show actors objects clean own = clean

behind_clean : (what : Truncation) (actors : List ActorRow) (objects : List ObjectRow) → AreClean actors objects
    → AreClean (actors_behind what actors) (objects_behind what objects)
behind_clean truncations.SetupActors actors objects clean = (tt, clean.1)
behind_clean truncations.SetupObjects actors objects clean = (clean.0, tt)
behind_clean _ actors objects clean = clean

-- ---- the fold

abbrev pub IsCleanState : State → Type 0
IsCleanState s = AreClean s.actors s.objects

stepped_clean : (s : State) (session : ℕ) (change : Change) → IsCleanState s → IsCleanChange change
    → IsCleanState (stepped s session change)
stepped_clean s session (Connect user host) clean own = clean
stepped_clean s session Quit clean own = clean
stepped_clean s session (Truncate what) clean own = behind_clean what s.actors s.objects clean
stepped_clean s session (Setup what) clean own = after_clean what s.actors s.objects clean own

from_clean : (change : Label → Change) → ((label : Label) → IsCleanChange (change label))
    → (s : State) (labels : List Label) → IsCleanState s → IsCleanState (state_from change s labels)
unfolding state_from
from_clean change each s [] clean = clean
from_clean change each s (label ∷ labels) clean = from_clean change each
    (stepped s label.session (change label)) labels (stepped_clean s label.session (change label) clean (each label))

abbrev is_clean : ObjectRow → Bool
is_clean row = list_all is_text_byte row.schema && list_all is_text_byte row.name

tested_objects : (objects : List ObjectRow) → list_all is_clean objects ≡ true → Each IsCleanObject objects
tested_objects [] e = tt
tested_objects (row ∷ objects) e =
    let h = and_parts (is_clean row) (list_all is_clean objects) e in
    let own = and_parts (list_all is_text_byte row.schema) (list_all is_text_byte row.name) h.0 in
    ((passed is_text_byte row.schema own.0, passed is_text_byte row.name own.1), tested_objects objects h.1)

any_text : IsText (codes "%")
any_text = passed is_text_byte (codes "%") refl

opened_clean : (setting : Setting) → IsCleanState (opened setting)
opened_clean setting = (((any_text, any_text, any_text), tt), tested_objects opening_objects refl)

-- behind whatever actions, whose changes have such texts
pub state_clean : (setting : Setting) (change : Label → Change) → ((label : Label) → IsCleanChange (change label))
    → (labels : List Label) → IsCleanState (state_of setting change labels)
state_clean setting change each labels = from_clean change each (opened setting) labels (opened_clean setting)
