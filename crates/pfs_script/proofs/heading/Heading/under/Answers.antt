use Rattle.std.proofs.Common.{ap, ◌∙◌}
use Rattle.pfs_classes.specs.Builtins.{with_builtins}
use Rattle.pfs_script.proofs.BuiltinNames.{sound_under, names_new}
use Rattle.pfs_script.proofs.heading.Heading.under.Goals as goal

pub invariant_of-result : goal.invariant_of-result
invariant_of-result c =
    sound_under c.builtin.new.names c.in_ok-classes.classes c.args.limits c.args.consumers.0 c.requires
    (c.in_ok-classes.ensures.names ∙ ap with_builtins c.new-names.ensures) c.in_ok-classes.ensures.classes c.in_ok-classes.ensures.come

pub returns : goal.returns
returns c =
    names_new c.builtin.new.names c.in_ok-classes.classes c.args.limits c.args.consumers.0
    (c.in_ok-classes.ensures.names ∙ ap with_builtins c.new-names.ensures) c.in_ok-classes.ensures.classes
