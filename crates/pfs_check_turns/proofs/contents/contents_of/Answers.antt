use Rattle.std.proofs.Common.{◌<◌, length, sym, subst}
use Rattle.pfs_model.specs.Chains.{Each}
use Rattle.pfs_check_contents.specs.ChangeReplays.{IsReplayTold}
use Rattle.pfs_check_turns.proofs.OrderedReplays.{contents_told}
use Rattle.pfs_check_turns.proofs.contents.contents_of.Goals as goal

pub replay-requires : goal.replay-requires
replay-requires c = subst (Each (λ place. place < length c.args.changes.now)) (sym c.as_slice.ensures.value) c.in_ok-order.ensures.within

pub returns : goal.returns
returns c =
    contents_told c.args.changes.now c.in_ok-order.order.items c.in_ok-shelf.shelf c.shelved.ensures c.in_ok-order.ensures
    (subst (λ z. IsReplayTold c.args.changes.now z c.in_ok-shelf.shelf) c.as_slice.ensures.value c.in_ok-shelf.ensures)
