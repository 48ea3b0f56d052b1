use Rattle.std.proofs.Common.{Err, sym, ap, ◌∙◌}
use Rattle.std.proofs.lemmas.Bool.{false≢true}
use Rattle.pfs_script.proofs.heading.add_class.Goals as goal

pub unreachable-requires : goal.unreachable-requires
unreachable-requires c = c.register.ensures.bad_name.0 (c.in-Err-BadName.is ∙ ap Err c.in-Err-BadName.field-0-is) c.args.kind c.requires.fits

pub unreachable-requires-in-Err-Duplicate : goal.unreachable-requires-in-Err-Duplicate
unreachable-requires-in-Err-Duplicate c =
    false≢true (sym c.requires.fresh ∙ (c.register.ensures.duplicate.0 (c.in-Err-Duplicate.is ∙ ap Err c.in-Err-Duplicate.field-0-is)).1)
