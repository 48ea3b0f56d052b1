use Rattle.std.proofs.Common.{cond, slice_index_or, ap, ◌∙◌, arith}
use Rattle.pfs_containers.specs.Connections.{in_use}
use Rattle.pfs_containers.specs.Uppers.{upper_of}
use Rattle.pfs_containers.proofs.PlaceLoops.{changed_none, step_is, end_is, all_totals_kept}
use Rattle.pfs_containers.proofs.places.forget_unused.Goals as goal

pub loop-place-init : goal.loop-place-init
loop-place-init c = changed_none (λ k x. cond (in_use (upper_of c.args.which) c.args.threads.now k) x 0) c.args.totals.now

pub loop-place-preserved : goal.loop-place-preserved
loop-place-preserved c =
    step_is (λ k x. cond (in_use (upper_of c.args.which) c.args.threads.now k) x 0) c.loop-place.place c.args.totals.now c.loop-place.totals 0 _ c.loop-place.invariant
    (c.kept_total.ensures ∙ ap (λ b. cond b (slice_index_or c.loop-place.totals c.loop-place.place 0) 0) c.is_used-used.ensures) (omega arith)

pub returns : goal.returns
returns c =
    end_is (λ k x. cond (in_use (upper_of c.args.which) c.args.threads.now k) x 0) c.loop-place.place c.args.totals.now c.loop-place.totals _ c.loop-place.invariant (omega arith)
    (all_totals_kept (in_use (upper_of c.args.which) c.args.threads.now) 0 c.args.totals.now)
