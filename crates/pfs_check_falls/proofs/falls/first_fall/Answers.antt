use Rattle.std.proofs.Common.{sym, subst}
use Rattle.pfs_check_falls.specs.DeedOrder.{AreInOrder}
use Rattle.pfs_check_falls.specs.FallenDeeds.{IsFallFound}
use Rattle.pfs_check_falls.proofs.FirstFalls.{moved_found, sorted_order}
use Rattle.pfs_check_falls.proofs.falls.first_fall.Goals as goal

pub least_fall-requires : goal.least_fall-requires
least_fall-requires c = subst AreInOrder (sym c.as_slice.ensures.value) (sorted_order _ c.in_ok-sort.ensures.sorted)

pub returns : goal.returns
returns c =
    moved_found c.args.deeds.items c.sort.new.self.items c.least_fall.result c.in_ok-sort.ensures.permutation
    (subst (λ z. IsFallFound z c.least_fall.result) c.as_slice.ensures.value c.least_fall.ensures)
