use Rattle.pfs_law_shared.proofs.PlainNear.{plain_near}
use Rattle.pfs_law_shared.proofs.PlainPlaced.{plain_placed}
use Rattle.pfs_law_shared.proofs.PlainPhases.{plain_shared}
use Rattle.pfs_law_shared.proofs.laws.plain.Goals as goal

pub returns : goal.returns
returns c = record {
  shared = plain_shared c.plain.ensures;
  near = plain_near;
  placed = plain_placed;
}
