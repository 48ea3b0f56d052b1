use Rattle.pfs_check_causes.proofs.causes.CauseGivens.into_causes.Goals as goal

pub returns : goal.returns
returns c = λ all noted. record {
  own = noted.own;
  free = c.in_ok-free.ensures all noted.free;
  puts = noted.puts;
}
