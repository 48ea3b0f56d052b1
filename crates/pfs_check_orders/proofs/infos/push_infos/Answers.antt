use Rattle.std.proofs.Common.{refl, ◌-◌, ◌++◌, ◌∙◌, ap, drop, min, take}
use Rattle.std.specs.List.{flat_map}
use Rattle.pfs_check_orders.specs.InfoWords.{info_of}
use Rattle.pfs_check_orders.proofs.InfoFacts.{infos_more, infos_whole}
use Rattle.pfs_check_orders.proofs.infos.push_infos.Goals as goal

pub loop-place-init : goal.loop-place-init
loop-place-init c = refl

pub loop-place-preserved : goal.loop-place-preserved
loop-place-preserved c =
    infos_more c.args.blank.now.contents.items c.args.entries.now.entries c.loop-place.place c.min-end.result c.entry.result c.loop-place.infos.items c.push_info.new.infos.items
    (c.args.infos.now.items ++ flat_map (info_of c.args.blank.now.contents.items) (take (c.min-end.result - c.args.order.start) (drop c.args.order.start c.args.entries.now.entries)))
    c.loop-place-test.true c.entry.ensures c.in_ok-push_info.ensures c.loop-place.invariant

pub returns : goal.returns
returns c = infos_whole c.args.blank.now.contents.items c.args.entries.now.entries c.args.order c.loop-place.place c.min-end.result c.args.infos.now.items c.loop-place.infos.items
    c.loop-place-test.false (c.min-end.ensures ∙ ap (min c.args.order.end) c.count.ensures.count) c.loop-place.invariant
