use Rattle.std.specs.Io.KnownBytes.{Keeps}
use Rattle.pfs_outside.proofs.standard.read_again.Given as goal

-- an interrupted read leaves what the reader has left
abbrev pub invariant-loop : goal.invariant-loop
invariant-loop g l = Keeps (g.R.Read.remaining l.initial.reader) (g.R.Read.remaining l.reader)
