use Rattle.std.proofs.Common.{sym, arith, None}
use Rattle.std.proofs.lemmas.Bool.Decides.{nat_tests}
use Rattle.pfs_check_causes.proofs.PutFacts.{last_at}
use Rattle.pfs_check_causes.proofs.puts.last_top.Goals as goal

pub returns-else-is_empty : goal.returns-else-is_empty
returns-else-is_empty c = sym (last_at None c.args.tops.now _ _ (grind (arith, nat_tests)))
