use Rattle.std.proofs.Common.{◌≡◌, ℕ, Bool, true, cond, List, refl, sym, ap, subst, ◌∙◌}
use Rattle.std.specs.Prelude.{not}
use Rattle.std.specs.BTreeMap.{is_at}
use Rattle.std.specs.BTreeSet.{contains}
use Rattle.std.specs.Cmp.Lexicographic.{slice_cmp}
use Rattle.std.specs.List.{list_any}
use Rattle.std.specs.Ordering.{is_eq, nat_cmp}
use Rattle.pfs_sql.proofs.FreshNames.{lower, fresh_none, fresh_more}
use Rattle.pfs_sql.proofs.distinct.are_apart.Goals as goal

pub names-init : goal.names-init
names-init c = fresh_none (contains (slice_cmp nat_cmp) c.new-seen.result) c.args.names.now
    (λ q. ap (λ ks. list_any (is_at (slice_cmp nat_cmp q)) ks) c.new-seen.ensures.empty)

pub names-preserved : goal.names-preserved
names-preserved c =
    let low-is : c.in_ok-low.low ≡ lower c.name-item.result = c.in_ok-low.ensures ∙ ap lower c.as_bytes.ensures in
    let new : not (contains (slice_cmp nat_cmp) c.names.seen c.in_ok-low.low) ≡ true = sym c.in_ok-added.ensures.added ∙ c.if-not-added.false in
    fresh_more c.args.names.now c.args.names.now c.names.name-index c.name-item.result (contains (slice_cmp nat_cmp) c.names.seen) (contains (slice_cmp nat_cmp) c.insert.new.self)
    c.names-test.true c.name-item.is c.names.invariant
    (subst (λ (x : List ℕ). not (contains (slice_cmp nat_cmp) c.names.seen x) ≡ true) low-is new)
    (λ q. c.in_ok-added.ensures.updates.0 q ∙ ap (λ (x : List ℕ). cond (is_eq (slice_cmp nat_cmp x q)) true (contains (slice_cmp nat_cmp) c.names.seen q)) low-is)
