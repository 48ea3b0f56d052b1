use Rattle.std.proofs.Common.{◌≡◌, ◌∙◌, ◌++◌, ◌∷◌, [], List, ap}
use Rattle.pfs_classes.specs.declared.classes.LostClass.{LostClass}
use Rattle.pfs_classes.proofs.RegistryLemmas.{keeps_lost, updated_from}
use Rattle.pfs_classes.proofs.classes.Classes.add_lost.Goals as goal

pub invariant_of-self-2 : goal.invariant_of-self-2
invariant_of-self-2 c =
    let one : LostClass = record { name = c.args.name; kind = c.args.kind } in
    let items : c.push_reserved.new.self.items ≡ c.self.inside.lost.items ++ one ∷ [] =
    c.push_reserved.ensures.items ∙ ap (λ (xs : List LostClass). xs ++ one ∷ []) c.reserve.ensures.items in
    rw items (keeps_lost _ c.self.inside.found c.insert.new.self c.args.name c.args.kind (updated_from _ _ _ _ (rw c.name.view_is at c.in_ok-insert.ensures.updates)) c.self.invariant)
