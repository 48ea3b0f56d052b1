use Rattle.std.proofs.Common.{◌≡◌, ℕ, Bool, true, false, cond, List, [], ◌∷◌, ◌++◌, map, refl, ap, ◌∙◌}
use Rattle.std.specs.Prelude.{fold}
use Rattle.pfs_rows.specs.declared.limits.Limits.{Limits}
use Rattle.pfs_classes.specs.declared.classes.Class.{Class}
use Rattle.pfs_classes.specs.Registry.{Registry, has_room, registered}
use Rattle.pfs_classes.specs.Builtins.{builtins, class_of, start_of, builtin_of}
use Rattle.pfs_test_store.proofs.admin.builtins.Goals as goal

-- registering keeps the limits
limits_by : (r : Registry) (class : Class) (room : Bool) → (cond room (record r { classes = r.classes ++ class ∷ [] }) (record r { lost = r.lost ++ record { name = class.name; kind = class.kind } ∷ [] })).limits ≡ r.limits
limits_by r class true = refl
limits_by r class false = refl

limits-registered : (r : Registry) (class : Class) → (registered r class).limits ≡ r.limits
unfolding registered
limits-registered r class = limits_by r class (has_room r class.kind)

limits_fold : (classes : List Class) (r : Registry) → (fold registered r classes).limits ≡ r.limits
limits_fold [] r = refl
limits_fold (class ∷ classes) r = limits_fold classes (registered r class) ∙ limits-registered r class

limits-builtin : (texts : List (List ℕ)) (limits : Limits) → (builtin_of texts limits).limits ≡ limits
limits-builtin texts limits = limits_fold (map (class_of texts) builtins) (start_of texts limits)

pub returns-clause-limits : goal.returns-clause-limits
returns-clause-limits c = ap (λ (r : Registry). r.limits) c.in_ok-classes.ensures.classes ∙ limits-builtin c.builtin.new.names c.args.limits.now

pub returns-clause-come : goal.returns-clause-come
returns-clause-come c = c.in_ok-classes.ensures.come
