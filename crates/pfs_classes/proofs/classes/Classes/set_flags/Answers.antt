use Rattle.std.proofs.Common.{◌<◌, refl, ap, length, inl, inr}
use Rattle.pfs_classes.specs.declared.classes.Class.{Class}
use Rattle.pfs_classes.proofs.RegistryLemmas.{keeps_transaction, keeps_class}
use Rattle.pfs_classes.proofs.classes.Classes.set_flags.Goals as goal

pub invariant_of-self : goal.invariant_of-self
invariant_of-self c = keeps_transaction _ c.self.inside.found _ refl c.self.invariant

pub invariant_of-self-else-id-eq-TRANSACTION : goal.invariant_of-self-else-id-eq-TRANSACTION
invariant_of-self-else-id-eq-TRANSACTION c =
    let given = rw (← c.self.view_is, ← c.id.view_is) at c.requires in
    let below : c.id.inside.0 < length c.self.inside.classes.items =
    elim given [ inl lt ↦ lt | inr last ↦ absurd (c.if-id-eq-TRANSACTION.false last) ] in
    keeps_class _ c.self.inside.found c.id.inside.0 _ _ (ap (λ (one : Class). one.name) c.index_mut-class.ensures.value) (ap (λ (one : Class). one.kind) c.index_mut-class.ensures.value) below c.self.invariant
