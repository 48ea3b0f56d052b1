use Rattle.std.proofs.Common.{refl, ◌-◌, ◌∙◌, ap, drop, min, take}
use Rattle.pfs_check_moves.specs.DueMoves.{due_of}
use Rattle.pfs_check_moves.specs.FoundTakes.{counted_in}
use Rattle.pfs_check_moves.proofs.DueFacts.{due_more, due_whole}
use Rattle.pfs_check_moves.proofs.dues.due_moves.Goals as goal

pub loop-place-init : goal.loop-place-init
loop-place-init c = rw c.new-due.ensures.items refl

pub loop-place-preserved : goal.loop-place-preserved
loop-place-preserved c =
    due_more (counted_in c.args.found.now) c.args.entries.now.entries c.loop-place.place c.min-end.result c.entry.result c.loop-place.due.items c.push_due.new.due.items
    (due_of (counted_in c.args.found.now) (take (c.min-end.result - c.args.order.start) (drop c.args.order.start c.args.entries.now.entries)))
    c.loop-place-test.true c.entry.ensures c.in_ok-push_due.ensures c.loop-place.invariant

pub returns : goal.returns
returns c = due_whole (counted_in c.args.found.now) c.args.entries.now.entries c.args.order c.loop-place.place c.min-end.result c.loop-place.due.items
    c.loop-place-test.false (c.min-end.ensures ∙ ap (min c.args.order.end) c.count.ensures.count) c.loop-place.invariant
