use Rattle.std.proofs.Common.{◌<◌, ◌^◌}
use Rattle.pfs_text.proofs.Digits.{Reads}
use Rattle.pfs_text.proofs.numbers.read_u64.Given as goal

abbrev pub invariant-loop-byte : goal.invariant-loop-byte
invariant-loop-byte l = Reads l.text l.byte-index l.number × (l.number < 2 ^ 64)
