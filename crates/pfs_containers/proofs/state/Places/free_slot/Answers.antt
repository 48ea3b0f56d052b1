use Rattle.std.proofs.Common.{rules, ◌<◌, length, IfSome, subst}
use Rattle.pfs_containers.proofs.PlaceBounds.{free_inside}
use Rattle.pfs_containers.proofs.state.Places.free_slot.Goals as goal

pub returns-clause-inside : goal.returns-clause-inside
returns-clause-inside c =
    subst (λ z. IfSome z (λ slot. slot < length c.args.self.now.threads)) (search rules) (free_inside c.args.self.now.threads)
