use Rattle.std.proofs.Common.{ℕ, List, ◌∷◌, ap, sym, ◌∙◌}
use Rattle.pfs_journal.proofs.ValueReadings.{value_space}
use Rattle.pfs_journal.proofs.guess.next_value.Goals as goal

pub returns-in-None-clause-said : goal.returns-in-None-clause-said
returns-in-None-clause-said c = λ said behind fits stops same.
    let space = value_space said behind in
    absurd (c.in-None.ensures.front space.0 (same ∙ space.1))

pub returns-in-Some-clause-said : goal.returns-in-Some-clause-said
returns-in-Some-clause-said c = λ said behind fits stops same.
    let space = value_space said behind in
    let rest = c.in-Some.ensures.front space.0 (same ∙ space.1) in
    c.value.ensures.said said behind fits stops (ap (λ (z : List ℕ). 32 ∷ z) rest ∙ sym space.1)
