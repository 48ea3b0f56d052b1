use Rattle.std.proofs.Common.{false, get_or, refl}
use Rattle.std.proofs.lemmas.Option.{slice_get-get_or}
use Rattle.pfs_check_falls.specs.declared.falls.PlacedDeed.{PlacedDeed}
use Rattle.pfs_check_falls.proofs.FirstFalls.{all_seen, none_seen, seen_more}
use Rattle.pfs_check_falls.proofs.falls.least_fall.Goals as goal

pub loop-next-init : goal.loop-next-init
loop-next-init c = none_seen _ _ refl

no_deed : PlacedDeed
no_deed = record { row = 0; version = 0; releases = false; action = 0; place = 0 }

pub loop-next-preserved : goal.loop-next-preserved
unfolding no_deed
loop-next-preserved c =
    seen_more c.args.deeds.now c.loop-next.next-index c.loop-next.floor c.loop-next.last c.loop-next.least (get_or c.args.deeds.now c.loop-next.next-index no_deed)
    c.floor_behind-floor.result c.with_fall-least.result c.requires (slice_get-get_or c.args.deeds.now c.loop-next.next-index no_deed c.loop-next-test.true) c.floor_behind-floor.ensures
    c.with_fall-least.ensures c.loop-next.invariant

pub returns : goal.returns
returns c = all_seen _ _ _ _ _ c.loop-next-test.false c.loop-next.invariant
