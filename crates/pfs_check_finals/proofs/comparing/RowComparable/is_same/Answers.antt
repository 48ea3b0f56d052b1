use Rattle.std.proofs.Common.{sym, ◌∙◌}
use Rattle.pfs_check_finals.proofs.ListDifferences.{some_differs}
use Rattle.pfs_check_finals.proofs.comparing.RowComparable.is_same.Goals as goal

pub returns-clause-other : goal.returns-clause-other
returns-clause-other c = λ none same.
    some_differs c.as_slice.result.now c.as_slice-2.result.now c.first_difference.result c.is_none.result c.first_difference.ensures c.is_none.ensures
    none (c.as_slice.ensures ∙ same ∙ sym c.as_slice-2.ensures)
