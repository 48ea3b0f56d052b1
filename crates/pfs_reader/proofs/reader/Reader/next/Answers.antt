use Rattle.std.proofs.Common.{sym, subst}
use Rattle.pfs_readsets.specs.ReadSets.{IsNext}
use Rattle.pfs_readsets.specs.ReadProgress.{Reached}
use Rattle.pfs_reader.proofs.Readings.{there}
use Rattle.pfs_reader.proofs.reader.Reader.next.Goals as goal

pub read_target-reading-requires-clause-there : goal.read_target-reading-requires-clause-there
read_target-reading-requires-clause-there g c =
    let i = c.self.invariant in
    there i.0 i.1 i.2 c.in-Some.target (c.in-Some.ensures i.0 i.1 i.2 i.3)

pub returns-in-Some-clause-reached : goal.returns-in-Some-clause-reached
returns-in-Some-clause-reached g c = λ scope table readings r.
    let own = subst (λ set. Reached set scope table readings) (sym c.self.view_is) r in
    c.note.ensures scope table readings own (subst (λ target. IsNext scope table readings target) (sym c.read_target-reading.ensures.target) (c.in-Some.ensures scope table readings own))
