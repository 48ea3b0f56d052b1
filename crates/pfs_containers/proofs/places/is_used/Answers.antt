use Rattle.std.proofs.Common.{nat_lt, ap, ◌∙◌}
use Rattle.pfs_containers.specs.Uppers.{upper_of}
use Rattle.pfs_containers.proofs.PlaceLoops.{used_is}
use Rattle.pfs_containers.proofs.places.is_used.Goals as goal

pub returns : goal.returns
returns c = ap (λ z. nat_lt 0 z) c.current.ensures.number ∙ used_is (upper_of c.args.which) c.args.threads.now c.args.place
