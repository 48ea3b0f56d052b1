use Rattle.std.proofs.Common.{sym, subst}
use Rattle.pfs_check_tops.specs.SortedTops.{AreInOrder, AreTops}
use Rattle.pfs_check_tops.proofs.TopRanks.{sorted_order, tops_moved}
use Rattle.pfs_check_tops.proofs.tops.tops_of.Goals as goal

pub rank-requires : goal.rank-requires
rank-requires c = subst AreInOrder (sym c.as_slice.ensures.value) (sorted_order _ c.in_ok-sort.ensures.sorted)

pub returns : goal.returns
returns c =
    tops_moved c.in_ok-items.items.items c.args.givens.items c.sort.new.self.items c.in_ok-sort.ensures.permutation
    (subst (AreTops c.in_ok-items.items.items) c.as_slice.ensures.value c.in_ok-items.ensures)
