-- The order of rows.
use Rattle.std.specs.Prelude.{ℕ, List, [], fold}
use Rattle.std.specs.Ordering.{nat_cmp, ordering_then}
use Rattle.std.specs.Cmp.Lexicographic.{slice_cmp}
use Rattle.std.specs.BTreeMap.{insert_entry}
use Rattle.std.specs.declared.cmp.Ordering.{Ordering}
use Rattle.pfs_text.specs.declared.values.RowValue.{RowValue}
use Rattle.pfs_tables.specs.declared.orders.RowKey.{RowKey}

-- rows stand in the order of these, the first that differs counting; texts by their bytes
abbrev pub row_cmp : RowKey → RowKey → Ordering
row_cmp a b =
    ordering_then (nat_cmp a.first b.first)
    (ordering_then (nat_cmp a.second b.second)
    (ordering_then (slice_cmp nat_cmp a.user b.user)
    (ordering_then (slice_cmp nat_cmp a.host b.host) (nat_cmp a.place b.place))))

-- keys of numbers, and of names
abbrev pub number_key : ℕ → ℕ → ℕ → RowKey
number_key first second place = record { first = first; second = second; user = []; host = []; place = place }

abbrev pub name_key : List ℕ → List ℕ → ℕ → RowKey
name_key user host place = record { first = 0; second = 0; user = user; host = host; place = place }

-- a row with its place in the order
abbrev pub Keyed : Type 0
Keyed = RowKey × List RowValue

-- rows put to their places in the order
abbrev pub put_row : List Keyed → Keyed → List Keyed
put_row rows row = insert_entry row_cmp rows row.0 row.1

abbrev pub put_rows : List Keyed → List Keyed → List Keyed
put_rows rows more = fold put_row rows more
