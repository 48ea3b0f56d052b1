use Rattle.std.proofs.Common.{List, ℕ, subst, sym}
use Rattle.pfs_classes.specs.Builtins.{HasBuiltins}
use Rattle.pfs_classes.specs.Registry.{Registry}
use Rattle.pfs_classes.specs.Settings.{ComesFrom, builtin}
use Rattle.pfs_classes.proofs.RowTexts.{has_builtins}
use Rattle.pfs_classes.proofs.classes.Classes.builtin.Goals as goal

pub registered-requires-clause-known : goal.registered-requires-clause-known
registered-requires-clause-known c = subst (λ (texts : List (List ℕ)). HasBuiltins texts) (sym c.in_ok-intern_builtins.ensures.ok) (has_builtins c.in_ok-copy.copy)

pub returns-clause-come : goal.returns-clause-come
returns-clause-come c =
    subst (λ (r : Registry). ComesFrom c.intern_builtins.new.names r) (sym c.in_ok-classes.ensures)
    (builtin c.args.limits.now c.requires.in_range (subst (λ (texts : List (List ℕ)). HasBuiltins texts) (sym c.in_ok-intern_builtins.ensures.ok) (has_builtins c.in_ok-copy.copy)))
