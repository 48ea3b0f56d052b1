use Rattle.std.proofs.Common.{◌≡◌, ◌-◌, ◌++◌, drop, take}
use Rattle.std.specs.List.{flat_map}
use Rattle.pfs_check_orders.specs.InfoWords.{info_of}
use Rattle.pfs_check_orders.proofs.infos.push_infos.Given as goal

abbrev pub invariant-loop-place : goal.invariant-loop-place
invariant-loop-place l =
    l.infos.items ++ flat_map (info_of l.blank.contents.items) (take (l.end - l.place) (drop l.place l.entries.entries))
    ≡ l.fn.infos.items ++ flat_map (info_of l.blank.contents.items) (take (l.end - l.fn.order.start) (drop l.fn.order.start l.entries.entries))
