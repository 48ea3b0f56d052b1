use Rattle.std.proofs.Common.{◌≡◌, take}
use Rattle.pfs_summaries.specs.FoundContents.{contents_of}
use Rattle.pfs_summaries.proofs.contents.contents_of.Given as goal

abbrev pub invariant-loop-reading : goal.invariant-loop-reading
invariant-loop-reading l = l.contents.items ≡ contents_of l.first l.count (take l.reading-index l.readings)
