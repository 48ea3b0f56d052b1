-- The answer of a SELECT: those of the rows that meet the conditions, in order, up to the limit, and of these the
-- named columns.
use Rattle.std.specs.Prelude.{◌≡◌, ℕ, Bool, true, false, not, ◌&&◌, if◌then◌else◌, List, [], ◌∷◌, Option, Some, None, map, filter, take, unwrap_or, slice_get, IsPermutation, IsSorted}
use Rattle.std.specs.List.{list_all}
use Rattle.std.specs.List.Sorted.{IsStable}
use Rattle.std.specs.Cmp.Lexicographic.{slice_cmp}
use Rattle.std.specs.Ordering.{is_eq, is_lt, is_gt, nat_cmp, ordering_then}
use Rattle.std.specs.declared.cmp.Ordering.{Ordering}
use Rattle.std.specs.declared.cmp.Ordering.TheVariants.{Less as Lower, Equal as Same, Greater as Higher}
use Rattle.pfs_text.specs.Likes.{is_like}
use Rattle.pfs_text.specs.declared.conditions.Comparison.{Comparison}
use Rattle.pfs_text.specs.declared.conditions.Comparison.TheVariants.{Equal, Unequal, Less, AtMost, Greater, AtLeast}
use Rattle.pfs_text.specs.declared.conditions.Literal.TheVariants.{Number as NumberLiteral, Text as TextLiteral}
use Rattle.pfs_text.specs.declared.conditions.Shown.{Shown}
use Rattle.pfs_text.specs.declared.conditions.Shown.TheVariants.{Null as ShownNull, Number as ShownNumber, Text as ShownText}
use Rattle.pfs_text.specs.declared.conditions.Test.{Test}
use Rattle.pfs_text.specs.declared.conditions.TestKind.{TestKind}
use Rattle.pfs_text.specs.declared.conditions.TestKind.TheVariants.{Compare, Like, IsNull, IsNotNull}
use Rattle.pfs_text.specs.declared.values.RowValue.{RowValue}
use Rattle.pfs_text.specs.declared.values.RowValue.TheVariants.{Null, Number, Text}
use Rattle.pfs_exec.specs.declared.query.Order.{Order}
use Rattle.pfs_exec.specs.declared.query.Select.{Select}

-- the value of a row in a column, which is NULL where the row has no such column
abbrev pub value_at : List RowValue → ℕ → RowValue
value_at row place = unwrap_or (slice_get row place) Null

-- the value that is shown to a condition
abbrev pub value_of : Shown → RowValue
value_of ShownNull = Null
value_of (ShownNumber number) = Number number
value_of (ShownText text) = Text text.now

-- a value that stands in this order to the literal meets the comparison
abbrev pub agrees : Comparison → Ordering → Bool
agrees Equal order = is_eq order
agrees Unequal order = not (is_eq order)
agrees Less order = is_lt order
agrees AtMost order = not (is_gt order)
agrees Greater order = is_gt order
agrees AtLeast order = not (is_lt order)

-- the value meets what a condition asks: a comparison and a LIKE are false of NULL and of another type than the
-- literal's
abbrev pub meets_value : TestKind → RowValue → Bool
meets_value IsNull Null = true
meets_value IsNull (Number value) = false
meets_value IsNull (Text value) = false
meets_value IsNotNull Null = false
meets_value IsNotNull (Number value) = true
meets_value IsNotNull (Text value) = true
meets_value (Compare comparison (NumberLiteral literal)) (Number value) = agrees comparison (nat_cmp value literal)
meets_value (Compare comparison (TextLiteral literal)) (Text value) =
    agrees comparison (slice_cmp nat_cmp value literal)
meets_value (Compare comparison literal) value = false
meets_value (Like pattern) (Text value) = is_like pattern value
meets_value (Like pattern) value = false

-- the row meets each condition
abbrev pub meets_all : List Test → List RowValue → Bool
meets_all tests row = list_all (λ test. meets_value test.kind (value_at row test.column)) tests

-- NULL goes first, then numbers by value, then texts by their bytes
abbrev pub value_cmp : RowValue → RowValue → Ordering
value_cmp Null Null = Same
value_cmp Null (Number b) = Lower
value_cmp Null (Text b) = Lower
value_cmp (Number a) Null = Higher
value_cmp (Number a) (Number b) = nat_cmp a b
value_cmp (Number a) (Text b) = Lower
value_cmp (Text a) Null = Higher
value_cmp (Text a) (Number b) = Higher
value_cmp (Text a) (Text b) = slice_cmp nat_cmp a b

-- DESC turns the order of its column
abbrev pub column_cmp : Order → List RowValue → List RowValue → Ordering
column_cmp order a b =
    if order.descending then value_cmp (value_at b order.column) (value_at a order.column)
    else value_cmp (value_at a order.column) (value_at b order.column)

-- a later column decides between rows that are equal in those before it
abbrev pub row_cmp : List Order → List RowValue → List RowValue → Ordering
row_cmp [] a b = Same
row_cmp (order ∷ orders) a b = ordering_then (column_cmp order a b) (row_cmp orders a b)

-- the rows in a stable order: the same rows, ascending by the columns, and rows that are equal there stay in their
-- order
pub record IsInOrder (orders : List Order) (rows sorted : List (List RowValue)) : Type 0 where
  pub permutation : IsPermutation rows sorted
  pub ascending : IsSorted (row_cmp orders) sorted
  pub stable : IsStable (row_cmp orders) rows sorted

-- the first rows, as many as the limit says
abbrev pub limited : Option ℕ → List (List RowValue) → List (List RowValue)
limited None rows = rows
limited (Some limit) rows = take limit rows

-- the named columns of a row, in the order of their naming
abbrev pub named_columns : List ℕ → List RowValue → List RowValue
named_columns columns row = map (value_at row) columns

-- the answer
pub record IsAnswer (query : Select) (rows answer : List (List RowValue)) : Type 0 where
  pub sorted : List (List RowValue)
  pub in_order : IsInOrder query.order (filter (meets_all query.tests) rows) sorted
  pub shown : answer ≡ map (named_columns query.columns) (limited query.limit sorted)
