use Rattle.std.proofs.Common.{arith}
use Rattle.pfs_containers.specs.Administration.{current}
use Rattle.pfs_containers.specs.Uppers.{upper_of}
use Rattle.pfs_containers.proofs.PlaceLoops.{changed_none, step_is, end_is, all_current}
use Rattle.pfs_containers.proofs.places.count_anew.Goals as goal

pub loop-place-init : goal.loop-place-init
loop-place-init c = changed_none (λ k x. current (upper_of c.args.which) c.args.threads.now k) c.args.totals.now

pub loop-place-preserved : goal.loop-place-preserved
loop-place-preserved c =
    step_is (λ k x. current (upper_of c.args.which) c.args.threads.now k) c.loop-place.place c.args.totals.now c.loop-place.totals 0 _ c.loop-place.invariant
    (c.current.ensures.number) (omega arith)

pub returns : goal.returns
returns c =
    end_is (λ k x. current (upper_of c.args.which) c.args.threads.now k) c.loop-place.place c.args.totals.now c.loop-place.totals _ c.loop-place.invariant (omega arith)
    (all_current (current (upper_of c.args.which) c.args.threads.now) 0 c.args.totals.now)
