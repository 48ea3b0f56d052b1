-- When the rows of a summary are those of what its keys counted.
use Rattle.std.specs.Prelude.{◌≡◌, ◌≢◌, ◌↔◌, ℕ, ◌==◌, true, false, List, [], ◌∷◌, ◌++◌, map, Contains}
use Rattle.std.specs.List.{AllPairs}
use Rattle.std.specs.declared.cmp.Ordering.TheVariants.{Greater}
use Rattle.pfs_classes.specs.Registry.{class_at, text_of}
use Rattle.pfs_classes.specs.declared.setting.Setting.{Setting}
use Rattle.pfs_conservation.specs.KindSummaries.{Key, KeyThread, KeyAccount, KeyUser, KeyHost, KeyAll}
use Rattle.pfs_readsets.specs.TablePlaces.{is_class_of}
use Rattle.pfs_rows.specs.declared.table.SummaryTable.{SummaryTable}
use Rattle.pfs_rows.specs.declared.table.TableKind.{TableKind}
use Rattle.pfs_stat.specs.declared.Stat.{Stat}
use Rattle.pfs_summaries.specs.Heads.{row_cmp}
use Rattle.pfs_summaries.specs.RowValues.{values_of, count_of}
use Rattle.pfs_summaries.specs.Summaries.{class_text, numbers_of}
use Rattle.pfs_summaries.specs.declared.heads.RowKey.{RowKey}
use Rattle.pfs_summaries.specs.declared.numbers.Numbers.{Numbers}
use Rattle.pfs_text.specs.declared.values.RowValue.{RowValue}
use Rattle.pfs_text.specs.declared.values.RowValue.TheVariants as value
use Rattle.pfs_law_summaries.specs.SummaryKeys.{is_key_of, heading_of_key}

-- the numbers of a class's row, where its cells have counted this
abbrev pub class_numbers : TableKind → (ℕ → Stat) → ℕ → Numbers
class_numbers kind counts id = numbers_of kind (λ cell. record { stat = counts cell; busy = false }) id

-- the row of a key and a class, where each cell of a key has counted this: whose it is, the class's name, the numbers
abbrev pub summary_row : Setting → TableKind → (Key → ℕ → Stat) → Key × ℕ → List RowValue
summary_row setting kind counts row =
    heading_of_key setting.names row.0
    ++ value.Text (class_text setting.names (class_at setting.classes row.1)) ∷ []
    ++ values_of (class_numbers kind (counts row.0) row.1)

-- a key of the summary and a class of its kind, by which something was counted
pub record HasRow (setting : Setting) (kind : TableKind) (which : SummaryTable) (IsKey : Key → Type 0)
    (counts : Key → ℕ → Stat) (row : Key × ℕ) : Type 0 where
  pub of_table : is_key_of which row.0 ≡ true
  pub key : IsKey row.0
  pub class : is_class_of kind (class_at setting.classes row.1) ≡ true
  pub some : (count_of (class_numbers kind (counts row.0) row.1) == 0) ≡ false

-- where the row of a key and a class stands: by thread by its session, else by its names, and then by class
abbrev pub ordered : ℕ → List ℕ → List ℕ → ℕ → RowKey
ordered session named at id = record { thread_id = session; user = named; host = at; class = id; place = 0 }

abbrev pub order_of : List (List ℕ) → Key → ℕ → RowKey
order_of names (KeyThread session slot) id = ordered session [] [] id
order_of names (KeyAccount user host) id = ordered 0 (text_of names user) (text_of names host) id
order_of names (KeyUser user) id = ordered 0 (text_of names user) [] id
order_of names (KeyHost host) id = ordered 0 [] (text_of names host) id
order_of names KeyAll id = ordered 0 [] [] id

abbrev pub StandsBefore : List (List ℕ) → Key × ℕ → Key × ℕ → Type 0
StandsBefore names a b = row_cmp (order_of names a.0 a.1) (order_of names b.0 b.1) ≢ Greater

-- a row for each key and class by which something was counted, once and in their order, and for no other
pub record AreSummed (setting : Setting) (kind : TableKind) (which : SummaryTable) (IsKey : Key → Type 0)
    (counts : Key → ℕ → Stat) (rows : List (List RowValue)) : Type 0 where
  pub keys : List (Key × ℕ)
  pub rows_are : rows ≡ map (summary_row setting kind counts) keys
  pub just : (row : Key × ℕ) → Contains keys row ↔ HasRow setting kind which IsKey counts row
  pub once : AllPairs (λ (a b : Key × ℕ). a ≢ b) keys
  pub ascending : AllPairs (StandsBefore setting.names) keys
