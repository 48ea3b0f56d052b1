use Rattle.pfs_exec.proofs.CommandTexts.{command_read, command_said, none_said}
use Rattle.pfs_exec.proofs.texts.commands_are_said.Goals as goal

pub returns-clause-said : goal.returns-clause-said
returns-clause-said c = command_said

pub returns-clause-read : goal.returns-clause-read
returns-clause-read c = command_read

pub returns-clause-none : goal.returns-clause-none
returns-clause-none c = none_said
