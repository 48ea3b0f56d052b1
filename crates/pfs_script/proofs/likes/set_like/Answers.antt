use Rattle.std.proofs.Common.{◌≡◌, Some, ◌+◌, suc, length, inl, refl, subst, ap, ◌∙◌, arith}
use Rattle.pfs_classes.specs.declared.classes.Class.{Class}
use Rattle.pfs_classes.specs.Registry.{Registry, class_at}
use Rattle.pfs_script.specs.Headings.{set_if_like}
use Rattle.pfs_script.proofs.FlagChanges.{front_set, set_at, set_next, set_last, length-map_front}
use Rattle.pfs_script.proofs.likes.set_like.Goals as goal

pub loop-id-init : goal.loop-id-init
loop-id-init c = record { value = refl; come = c.requires }

pub set_if_like-requires-clause-given : goal.set_if_like-requires-clause-given
set_if_like-requires-clause-given c =
    let same : length c.loop-id.classes.classes ≡ length c.args.classes.now.classes =
    ap (λ (r : Registry). length r.classes) c.loop-id.invariant.value ∙ length-map_front (set_if_like c.args.names.now c.args.pattern.now c.args.enabled c.args.timed) c.loop-id.id c.args.classes.now.classes in
    inl (omega arith)

pub set_if_like-requires-clause-come : goal.set_if_like-requires-clause-come
set_if_like-requires-clause-come c = c.loop-id.invariant.come

pub loop-id-preserved : goal.loop-id-preserved
loop-id-preserved c = record {
  value =
      let r : Registry = c.args.classes.now in
      let told = subst (λ (old : Registry). (class : Class) → class_at old c.loop-id.id ≡ Some class → c.set_if_like.new.classes ≡ set_at c.args.names.now c.args.pattern.now c.args.enabled c.args.timed old c.loop-id.id class)
      c.loop-id.invariant.value c.set_if_like.ensures.value in
      let step = set_next c.args.names.now c.args.pattern.now c.args.enabled c.args.timed r c.set_if_like.new.classes c.loop-id.id (omega arith) (omega arith) told in
      let next : suc c.loop-id.id ≡ c.loop-id.id + 1 = omega arith in
      step ∙ ap (front_set c.args.names.now c.args.pattern.now c.args.enabled c.args.timed r) next;
  come = c.set_if_like.ensures.come;
}

pub set_if_like-requires-2-clause-come : goal.set_if_like-requires-2-clause-come
set_if_like-requires-2-clause-come c = c.loop-id.invariant.come

pub returns-clause-value : goal.returns-clause-value
returns-clause-value c =
    let r : Registry = c.args.classes.now in
    let all : c.loop-id.id ≡ length r.classes = omega arith in
    let told = subst (λ (old : Registry). (class : Class) → class_at old 62 ≡ Some class → c.set_if_like-2.new.classes ≡ set_at c.args.names.now c.args.pattern.now c.args.enabled c.args.timed old 62 class)
    c.loop-id.invariant.value c.set_if_like-2.ensures.value in
    set_last c.args.names.now c.args.pattern.now c.args.enabled c.args.timed r c.set_if_like-2.new.classes c.loop-id.id all told
