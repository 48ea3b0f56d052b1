use Rattle.std.proofs.Common.{◌≡◌, ◌≤◌, ℕ, length, cond, sym, ap, ◌∙◌, subst}
use Rattle.std.specs.Prelude.{nat_lt}
use Rattle.pfs_classes.specs.Registry.{Registry}
use Rattle.pfs_script.specs.Headings.{count_named}
use Rattle.pfs_script.proofs.CountLemmas.{count-flags}
use Rattle.pfs_script.proofs.heading.Heading.instrument.Goals as goal

pub invariant_of-self : goal.invariant_of-self
invariant_of-self c = record {
  in_range = c.self.invariant.in_range;
  same_limits = ap (λ (r : Registry). r.limits) c.set_like.ensures.value ∙ c.self.invariant.same_limits;
  come = c.set_like.ensures.come;
  once = λ id.
      let same : count_named c.set_like.new.classes id ≡ count_named c.self.inside.classes id =
      ap (λ (r : Registry). count_named r id) c.set_like.ensures.value ∙ count-flags c.self.inside.classes c.self.inside.names c.args.pattern.now c.args.enabled c.args.timed id in
      subst (λ (n : ℕ). n ≤ cond {A = ℕ} (nat_lt id (length c.self.inside.names)) 1 0) (sym same) (c.self.invariant.once id);
  places = c.self.invariant.places;
  utf8 = c.self.invariant.utf8;
}
