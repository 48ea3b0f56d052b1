use Rattle.pfs_event.proofs.BracketLemmas.{closes, given, took_is, one_opening}
use Rattle.pfs_event.proofs.laws.brackets.Goals as goal

pub returns-clause-took : goal.returns-clause-took
returns-clause-took c = took_is

pub returns-clause-pairs : goal.returns-clause-pairs
returns-clause-pairs c steps what others = (closes steps what others, given steps what others)

pub returns-clause-one : goal.returns-clause-one
returns-clause-one c = one_opening
