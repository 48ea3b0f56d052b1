use Rattle.std.proofs.Common.{◌-◌, sym, subst, arith, Some, None}
use Rattle.std.specs.Prelude.{slice_index_or}
use Rattle.pfs_check_tops.specs.SortedTops.{AreTops, Parts}
use Rattle.pfs_check_tops.proofs.TopSearch.{greatest_there, none_up_to, other_row}
use Rattle.pfs_check_tops.proofs.TopValues.{top_is}
use Rattle.pfs_check_tops.proofs.tops.Tops.greatest.Goals as goal

pub returns-then-place-eq0 : goal.returns-then-place-eq0
returns-then-place-eq0 c = λ givens all.
    let tops = c.as_slice-tops.result.now in
    let same = subst (λ z. AreTops z givens) (sym c.as_slice-tops.ensures.value) all in
    let parts = subst (λ z. Parts tops c.args.row c.args.at z z) c.if-place-eq0.true (c.behind-place.ensures.parts same.order) in
    top_is givens c.args.row c.args.at None (none_up_to tops givens c.args.row c.args.at same parts)

pub returns-then-top-row : goal.returns-then-top-row
returns-then-top-row c = λ givens all.
    let tops = c.as_slice-tops.result.now in
    let same = subst (λ z. AreTops z givens) (sym c.as_slice-tops.ensures.value) all in
    top_is givens c.args.row c.args.at
    (Some (slice_index_or tops (c.behind-place.result - 1) (record { row = 0; at = 0; version = 0 })).version)
    (greatest_there tops givens c.args.row c.args.at c.behind-place.result (record { row = 0; at = 0; version = 0 }) same
    (c.behind-place.ensures.parts same.order) (omega (arith, c.if-place-eq0.false)) c.behind-place.ensures.within c.if-top-row.true)

pub returns-else-top-row : goal.returns-else-top-row
returns-else-top-row c = λ givens all.
    let tops = c.as_slice-tops.result.now in
    let same = subst (λ z. AreTops z givens) (sym c.as_slice-tops.ensures.value) all in
    top_is givens c.args.row c.args.at None
    (other_row tops givens c.args.row c.args.at c.behind-place.result (record { row = 0; at = 0; version = 0 }) same
    (c.behind-place.ensures.parts same.order) (omega (arith, c.if-place-eq0.false)) c.behind-place.ensures.within c.if-top-row.false)
