use Rattle.std.proofs.Common.{arith, inl, inr, sym, ◌∙◌}
use Rattle.std.proofs.lemmas.Slice.Eq.{bytes_eq-Decides}
use Rattle.std.proofs.lemmas.Bool.{false≢true}
use Rattle.pfs_classes.proofs.KindLemmas.{order_of-lt}
use Rattle.pfs_classes.proofs.kind.find_kind.Goals as goal

pub returns-clause-kind : goal.returns-clause-kind
returns-clause-kind c kind fits =
    elim fits [
      | inl e ↦ absurd (false≢true (sym c.if-eq.false ∙ (c.eq.ensures ∙ (bytes_eq-Decides c.args.name.now c.as_bytes.result.now).1 (e.0 ∙ sym (c.as_bytes.ensures.value ∙ c.name.ensures)))))
      | inr p ↦ c.loop-kind.invariant kind (omega (arith, order_of-lt kind)) (p.0, p.1, p.2)
    ]
