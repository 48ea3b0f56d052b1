use Rattle.std.proofs.Common.{◌≡◌, ◌∙◌, ℕ, [], true, ap}
use Rattle.pfs_classes.specs.declared.kind.Kind.TheVariants.{Transaction}
use Rattle.pfs_classes.specs.Registry.{Registry}
use Rattle.pfs_classes.specs.Builtins.{start_of, after_rows, builtins}
use Rattle.pfs_classes.proofs.builtin.registered.Goals as goal

pub returns : goal.returns
returns c =
    let alone : ℕ → Registry = λ name. record { limits = c.args.limits.now; classes = []; transaction = record { name = name; kind = Transaction; enabled = true; timed = true }; lost = [] } in
    let start : c.in_ok-classes.classes ≡ start_of c.args.names.now c.args.limits.now = c.in_ok-classes.ensures ∙ ap alone c.id_of.ensures in
    c.in_ok-add_rows.ensures ∙ ap (λ (r : Registry). after_rows r c.args.names.now builtins) start
