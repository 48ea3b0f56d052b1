use Rattle.std.proofs.Common.{List, ℕ, ap, ◌∙◌}
use Rattle.pfs_names.specs.InternedTexts.{interned}
use Rattle.pfs_script.specs.Headings.{Head, resolved}
use Rattle.pfs_script.specs.SessionNames.{head_named}
use Rattle.pfs_script.proofs.NameIds.{interned_is}
use Rattle.pfs_script.proofs.InternedNames.{same_resolved, sound_named}
use Rattle.pfs_script.proofs.heading.Heading.intern.Goals as goal

pub invariant_of-self-2 : goal.invariant_of-self-2
invariant_of-self-2 c =
    let head : Head = record { names = c.self.inside.names; classes = c.self.inside.classes; limits = c.self.inside.limits; consumers = c.self.inside.consumers.0 } in
    sound_named head c.intern.new.self c.args.text.now c.self.invariant c.in-Ok.ensures.ok c.in-Ok.ensures.names c.utf8.text
    (c.more_names.ensures c.self.inside.names c.intern.new.self c.args.text.now head.classes c.in-Ok.ensures.ok c.self.invariant.come)

pub returns-clause-names : goal.returns-clause-names
returns-clause-names c =
    let head : Head = record { names = c.self.inside.names; classes = c.self.inside.classes; limits = c.self.inside.limits; consumers = c.self.inside.consumers.0 } in
    ap (λ (names : List (List ℕ)). head_named head names) (interned_is c.self.inside.names c.intern.new.self c.args.text.now c.in-Ok.ensures.ok)
    ∙ ap (λ (one : Head). head_named one (interned one.names c.args.text.now)) c.self.view_is

pub returns-clause-same : goal.returns-clause-same
returns-clause-same c name =
    let head : Head = record { names = c.self.inside.names; classes = c.self.inside.classes; limits = c.self.inside.limits; consumers = c.self.inside.consumers.0 } in
    same_resolved head c.intern.new.self c.args.text.now name c.self.invariant c.in-Ok.ensures.ok
    ∙ ap (λ (one : Head). resolved one name) c.self.view_is
