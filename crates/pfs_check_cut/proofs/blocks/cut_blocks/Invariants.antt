use Rattle.std.proofs.Common.{List}
use Rattle.pfs_model.specs.EntryPlaces.{Block}
use Rattle.pfs_check_cut.specs.Sessions.{AreTrailsOf}
use Rattle.pfs_check_cut.proofs.BlockSteps.{AreUnder}
use Rattle.pfs_check_cut.proofs.blocks.cut_blocks.Given as goal

abbrev pub invariant-loop-place : goal.invariant-loop-place
invariant-loop-place l = (earlier : List Block) → AreTrailsOf earlier l.fn.trails
    → AreUnder earlier l.phase l.line l.saids l.reports l.blocks.items l.trails l.place l.end
