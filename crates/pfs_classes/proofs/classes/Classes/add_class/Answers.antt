use Rattle.std.proofs.Common.{◌≡◌, ◌∙◌, ◌++◌, ◌∷◌, [], List, ap, length, arith}
use Rattle.pfs_classes.specs.declared.classes.Class.{Class}
use Rattle.pfs_classes.proofs.RegistryLemmas.{keeps_push, updated_from}
use Rattle.pfs_classes.proofs.classes.Classes.add_class.Goals as goal

pub invariant_of-self-2 : goal.invariant_of-self-2
invariant_of-self-2 c =
    let room = rw (← c.self.view_is) at c.requires in
    let next : c.len.result ≡ length c.self.inside.classes.items = omega (arith, c.len.ensures, c.self.inside.classes.ok) in
    let items : c.push_reserved.new.self.items ≡ c.self.inside.classes.items ++ c.args.class ∷ [] =
    c.push_reserved.ensures.items ∙ ap (λ (xs : List Class). xs ++ c.args.class ∷ []) c.reserve.ensures.items in
    rw items (keeps_push _ c.self.inside.found c.insert.new.self c.args.class room (updated_from _ _ _ _ (rw (c.name.view_is, next) at c.in_ok-insert.ensures.updates)) c.self.invariant)
