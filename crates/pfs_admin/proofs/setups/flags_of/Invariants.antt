use Rattle.std.proofs.Common.{◌≡◌, length, map, take}
use Rattle.pfs_admin.specs.SetupStatements.{flags_in}
use Rattle.pfs_admin.proofs.setups.flags_of.Given as goal

abbrev pub invariant-loop-at : goal.invariant-loop-at
invariant-loop-at l = record {
  wide : length l.flags ≡ 160;
  copied : take l.at l.flags ≡ map flags_in (take l.at l.words);
}
