use Rattle.std.proofs.Common.{◌∙◌, arith}
use Rattle.pfs_admin.specs.Truncations.{is_there}
use Rattle.pfs_admin.proofs.TruncationCosts.{count_few}
use Rattle.pfs_admin.proofs.InfoPlaces.{count_whole}
use Rattle.pfs_admin.proofs.charges.count.Goals as goal

pub overflow_add-count : goal.overflow_add-count
overflow_add-count c =
    omega (arith, c.loop-place.invariant, count_few (is_there c.args.containers.now.now.places c.args.level) c.loop-place.place)

pub returns-clause-number : goal.returns-clause-number
returns-clause-number c =
    c.loop-place.invariant ∙ count_whole (is_there c.args.containers.now.now.places c.args.level) c.loop-place.place (omega arith)

pub returns-clause-few : goal.returns-clause-few
returns-clause-few c =
    omega (arith, c.loop-place.invariant, count_few (is_there c.args.containers.now.now.places c.args.level) c.loop-place.place)
