-- The worked script, by computation.
use Rattle.std.proofs.Common.{refl}
use Rattle.pfs_script.specs.Brackets.{closing_from, brackets_from}
use Rattle.pfs_script.specs.Events.{events_of}
use Rattle.pfs_script.specs.Marks.{written_from}
use Rattle.pfs_exec.specs.Requests.{command_in, request_of, table_in, tokens_from}
use Rattle.pfs_sql.specs.TextCuts.{inner_of, inside_of, token_of}
use Rattle.pfs_sql.specs.TokenReaders.{assignment_at, change_at, columns_at, command_at, command_of, delete_at, many, past_table, removal_at, select_at, truncate_at, update_at, whole}
use Rattle.pfs_runs.specs.ScriptExamples.{WorkedScript}

pub worked : WorkedScript
unfolding events_of brackets_from closing_from written_from request_of command_in tokens_from token_of inner_of inside_of table_in command_of whole command_at select_at columns_at change_at removal_at truncate_at past_table update_at delete_at assignment_at many
worked = record {
  waits = refl;
  quits = refl;
  asks = refl;
  first = refl;
  second = refl;
  other = refl;
  truncates = refl;
  shows = refl;
  updates = refl;
  nobody = refl;
  lasts = refl;
  nothing = refl;
  read_only = refl;
}
