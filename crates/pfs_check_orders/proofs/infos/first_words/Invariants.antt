use Rattle.std.proofs.Common.{◌≡◌, ◌-◌, drop, take}
use Rattle.pfs_check_orders.specs.InfoWords.{words_in}
use Rattle.pfs_check_orders.proofs.infos.first_words.Given as goal

abbrev pub invariant-loop-place : goal.invariant-loop-place
invariant-loop-place l =
    words_in (take (l.end - l.place) (drop l.place l.infos)) l.row
    ≡ words_in (take (l.end - l.fn.order.first_info) (drop l.fn.order.first_info l.infos)) l.row
