use Rattle.std.proofs.Common.{sym, ap, ◌∙◌}
use Rattle.pfs_names.specs.InternedTexts.{id_of}
use Rattle.pfs_script.specs.Headings.{Head}
use Rattle.pfs_script.proofs.NameIds.{id_absent}
use Rattle.pfs_script.proofs.heading.Heading.name_id.Goals as goal

pub returns-in-None : goal.returns-in-None
returns-in-None c =
    c.count.ensures.number
    ∙ (sym (id_absent c.self.inside.names c.args.name.now c.in-None.ensures)
    ∙ ap (λ (head : Head). id_of head.names c.args.name.now) c.self.view_is)
