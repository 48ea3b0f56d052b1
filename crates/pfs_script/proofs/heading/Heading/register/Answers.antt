use Rattle.std.proofs.Common.{◌≡◌, ℕ, List, Some, ap, ◌∙◌, subst}
use Rattle.std.specs.Prelude.{slice_get}
use Rattle.pfs_names.specs.InternedTexts.{Interns}
use Rattle.pfs_classes.specs.declared.classes.Class.{Class}
use Rattle.pfs_classes.specs.Registry.{registered}
use Rattle.pfs_script.specs.Headings.{Head, count_named, resolved, head_with, with_class, naming_in}
use Rattle.pfs_script.proofs.CountLemmas.{given-uncounted}
use Rattle.pfs_script.proofs.RegisterLemmas.{fits_utf8, fresh_count, sound_after, class_made, either, on_ok}
use Rattle.pfs_script.proofs.heading.Heading.register.Goals as goal

pub unreachable-requires : goal.unreachable-requires
unreachable-requires c = c.in_default.ensures.cases.0 (fits_utf8 c.args.name.now c.args.kind c.requires.fits)

pub add_class-requires-clause-fresh : goal.add_class-requires-clause-fresh
add_class-requires-clause-fresh c =
    let head : Head = record { names = c.self.inside.names; classes = c.self.inside.classes; limits = c.self.inside.limits; consumers = c.self.inside.consumers.0 } in
    let so : Interns c.self.inside.names c.intern.new.self c.args.name.now = subst (λ (text : List ℕ). Interns c.self.inside.names c.intern.new.self text) c.in-Ok.ensures.cases.0 c.in-Ok-intern.ensures.ok in
    let at : slice_get c.intern.new.self c.in-Ok-intern.id ≡ Some c.args.name.now = c.in-Ok-intern.ensures.id ∙ ap (λ (text : List ℕ). Some text) c.in-Ok.ensures.cases.0 in
    given-uncounted head.classes c.in-Ok-intern.id
    (fresh_count head c.intern.new.self c.args.name.now c.in-Ok-intern.id c.self.invariant so at c.in-Ok-intern.ensures.names
    (ap (λ (one : Head). resolved one c.args.name.now) c.self.view_is ∙ c.requires.fresh))

pub invariant_of-self-2 : goal.invariant_of-self-2
invariant_of-self-2 c =
    let head : Head = record { names = c.self.inside.names; classes = c.self.inside.classes; limits = c.self.inside.limits; consumers = c.self.inside.consumers.0 } in
    let class : Class = record { name = c.in-Ok-intern.id; kind = c.args.kind; enabled = c.args.enabled; timed = c.args.timed } in
    let so : Interns c.self.inside.names c.intern.new.self c.args.name.now = subst (λ (text : List ℕ). Interns c.self.inside.names c.intern.new.self text) c.in-Ok.ensures.cases.0 c.in-Ok-intern.ensures.ok in
    let at : slice_get c.intern.new.self c.in-Ok-intern.id ≡ Some c.args.name.now = c.in-Ok-intern.ensures.id ∙ ap (λ (text : List ℕ). Some text) c.in-Ok.ensures.cases.0 in
    let fresh : count_named head.classes c.in-Ok-intern.id ≡ 0 =
    fresh_count head c.intern.new.self c.args.name.now c.in-Ok-intern.id c.self.invariant so at c.in-Ok-intern.ensures.names
    (ap (λ (one : Head). resolved one c.args.name.now) c.self.view_is ∙ c.requires.fresh) in
    sound_after head c.intern.new.self c.args.name.now class c.self.invariant so c.in-Ok-intern.ensures.names at c.in-Ok.ensures.cases.1 fresh c.add_class.new.classes
    (c.add_class.ensures.come (c.more_names.ensures c.self.inside.names c.intern.new.self c.args.name.now head.classes so c.self.invariant.come))
    (either c.add_class.result (c.add_class.new.classes ≡ registered head.classes class) (c.add_class.new.classes ≡ head.classes) c.add_class.ensures.ok c.add_class.ensures.err)

pub returns : goal.returns
returns c =
    let head : Head = record { names = c.self.inside.names; classes = c.self.inside.classes; limits = c.self.inside.limits; consumers = c.self.inside.consumers.0 } in
    let class : Class = record { name = c.in-Ok-intern.id; kind = c.args.kind; enabled = c.args.enabled; timed = c.args.timed } in
    let so : Interns c.self.inside.names c.intern.new.self c.args.name.now = subst (λ (text : List ℕ). Interns c.self.inside.names c.intern.new.self text) c.in-Ok.ensures.cases.0 c.in-Ok-intern.ensures.ok in
    let at : slice_get c.intern.new.self c.in-Ok-intern.id ≡ Some c.args.name.now = c.in-Ok-intern.ensures.id ∙ ap (λ (text : List ℕ). Some text) c.in-Ok.ensures.cases.0 in
    let after : Head = record { names = c.intern.new.self; classes = c.add_class.new.classes; limits = c.self.inside.limits; consumers = c.self.inside.consumers.0 } in
    on_ok c.add_class.result (c.add_class.new.classes ≡ registered head.classes class)
    (after ≡ head_with (with_class (naming_in c.args.self.now) c.args.name.now c.args.kind c.args.enabled c.args.timed) c.args.self.now.limits c.args.self.now.consumers)
    (λ made.
    class_made head c.intern.new.self c.args.name.now c.args.kind c.args.enabled c.args.timed c.in-Ok-intern.id c.add_class.new.classes so at c.in-Ok-intern.ensures.names made
    ∙ ap (λ (one : Head). head_with (with_class (naming_in one) c.args.name.now c.args.kind c.args.enabled c.args.timed) one.limits one.consumers) c.self.view_is)
    c.add_class.ensures.ok
