-- What a line of a script asks its session to do, repeats written out.
use Rattle.std.specs.Prelude.{ℕ, Option}
use Rattle.pfs_admin.specs.declared.changes.SetupStatement.{SetupStatement}
use Rattle.pfs_exec.specs.declared.query.Select.{Select}
use Rattle.pfs_model.specs.declared.lines.Subject.{Subject}
use Rattle.pfs_session.specs.declared.events.Numbers.{Numbers}
use Rattle.pfs_rows.specs.declared.truncations.Truncation.{Truncation}

pub data Errand : Type 0 where
  Start : Subject → Errand  -- an event starts that isn't a stage
  Stage : Option Subject → Errand  -- the open stage ends, if any, and another starts where one is given
  End : Numbers → Errand  -- the innermost event ends, with a statement's numbers; where it is a stage, its statement too
  Spend : ℕ → Errand  -- so many picoseconds pass
  Quit : Errand  -- the session ends, an action
  Truncate : Truncation → Errand  -- a table is truncated, an action
  Change : SetupStatement → Errand  -- a setup table is changed, an action
  Query : Select → Errand  -- a SELECT whose rows are read of the store, no action
  Show : Select → Errand  -- a SELECT on `setup_actors` or `setup_objects`, an action
  Refuse : ℕ → Errand  -- a text is refused with the number of this error, no action
