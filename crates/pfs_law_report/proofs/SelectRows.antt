-- What a SELECT answers from rows that a report can have are rows that a report can have.
use Rattle.std.proofs.Common.{ℕ, zero, suc, List, [], ◌∷◌, map, Option, None, Some}
use Rattle.std.specs.Prelude.{filter}
use Rattle.std.specs.List.{All}
use Rattle.std.proofs.lemmas.List.Elements.{All-cons, All-filter, All-head, All-map, All-nil, All-same, All-tail, All-take, All-weaker}
use Rattle.std.proofs.lemmas.List.Sorted.{All-permutation}
use Rattle.pfs_exec.specs.Selections.{IsAnswer, limited, meets_all, named_columns, value_at}
use Rattle.pfs_exec.specs.declared.query.Select.{Select}
use Rattle.pfs_journal.specs.Reports.{IsRow, IsValue}
use Rattle.pfs_text.specs.declared.values.RowValue.{RowValue}

-- a column that the row has not is NULL
column_good : (row : List RowValue) (place : ℕ) → IsRow row → IsValue (value_at row place)
column_good [] place good = tt
column_good (value ∷ row) zero good = All-head IsValue value row good
column_good (value ∷ row) (suc place) good = column_good row place (All-tail IsValue value row good)

columns_good : (columns : List ℕ) (row : List RowValue) → IsRow row → IsRow (named_columns columns row)
columns_good [] row good = All-nil IsValue
columns_good (column ∷ columns) row good = All-cons IsValue (value_at row column) (map (value_at row) columns)
    (column_good row column good) (columns_good columns row good)

limited_good : (limit : Option ℕ) (rows : List (List RowValue)) → All IsRow rows → All IsRow (limited limit rows)
limited_good None rows good = good
limited_good (Some limit) rows good = All-take IsRow limit rows good

pub answer_good : (select : Select) (rows answer : List (List RowValue)) → IsAnswer select rows answer
    → All IsRow rows → All IsRow answer
answer_good select rows answer is good =
    let kept : List (List RowValue) = filter (meets_all select.tests) rows in
    let sorted : All IsRow is.sorted = All-permutation IsRow kept is.sorted is.in_order.permutation
    (All-filter (meets_all select.tests) IsRow rows good) in
    let first : List (List RowValue) = limited select.limit is.sorted in
    All-same IsRow answer (map (named_columns select.columns) first) is.shown
    (All-map IsRow (named_columns select.columns) first
    (All-weaker IsRow (λ (row : List RowValue). IsRow (named_columns select.columns row))
    (λ row own. columns_good select.columns row own) first (limited_good select.limit is.sorted sorted)))
