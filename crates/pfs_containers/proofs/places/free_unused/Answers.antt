use Rattle.std.proofs.Common.{ap, ◌∙◌, arith}
use Rattle.pfs_containers.specs.Connections.{in_use, kept_if}
use Rattle.pfs_containers.specs.Uppers.{upper_of}
use Rattle.pfs_containers.proofs.PlaceLoops.{changed_none, step_is, end_is, all_kept}
use Rattle.pfs_containers.proofs.places.free_unused.Goals as goal

pub loop-place-init : goal.loop-place-init
loop-place-init g c = changed_none (λ k x. kept_if (in_use (upper_of c.args.which) c.args.threads.now k) x) c.args.places.now

pub loop-place-preserved : goal.loop-place-preserved
loop-place-preserved g c =
    step_is (λ k x. kept_if (in_use (upper_of c.args.which) c.args.threads.now k) x) c.loop-place.place c.args.places.now c.loop-place.places c.index-places-place.result _ c.loop-place.invariant
    (c.kept.ensures ∙ (ap (λ b. kept_if b c.index-places-place.result) c.is_used-used.ensures
    ∙ ap (λ e. kept_if (in_use (upper_of c.args.which) c.args.threads.now c.loop-place.place) e) c.index-places-place.is)) (omega arith)

pub returns : goal.returns
returns g c =
    end_is (λ k x. kept_if (in_use (upper_of c.args.which) c.args.threads.now k) x) c.loop-place.place c.args.places.now c.loop-place.places _ c.loop-place.invariant (omega arith)
    (all_kept (in_use (upper_of c.args.which) c.args.threads.now) 0 c.args.places.now)
