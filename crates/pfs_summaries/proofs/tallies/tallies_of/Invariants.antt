use Rattle.std.proofs.Common.{take}
use Rattle.pfs_summaries.specs.ReadingSteps.{AreTallies}
use Rattle.pfs_summaries.proofs.tallies.tallies_of.Given as goal

abbrev pub invariant-loop-reading : goal.invariant-loop-reading
invariant-loop-reading l = AreTallies l.which l.infos (take l.reading-index l.readings) l.tallies.items
