-- The rows of a summary.
use Rattle.std.specs.Prelude.{◌≡◌, ℕ, ◌<◌, ◌==◌, ◌&&◌, ◌||◌, not, Bool, true, if◌then◌else◌, List, [], ◌∷◌, ◌++◌, map, fold, Option, Some, None}
use Rattle.std.specs.List.{flat_map, range_with_len, list_any}
use Rattle.std.specs.BTreeMap.{insert_entry}
use Rattle.pfs_rows.specs.declared.table.Reading.{Reading}
use Rattle.pfs_rows.specs.declared.table.SummaryTable.{SummaryTable}
use Rattle.pfs_rows.specs.declared.table.TableKind.{TableKind}
use Rattle.pfs_rows.specs.declared.table.TableKind.TheVariants.{Waits, Stages, Statements, Transactions}
use Rattle.pfs_classes.specs.declared.classes.Class.{Class}
use Rattle.pfs_classes.specs.declared.setting.Setting.{Setting}
use Rattle.pfs_classes.specs.Registry.{class_at, text_of}
use Rattle.pfs_readsets.specs.TablePlaces.{is_class_of}
use Rattle.pfs_text.specs.declared.values.RowValue.{RowValue}
use Rattle.pfs_text.specs.declared.values.RowValue.TheVariants as value
use Rattle.pfs_summaries.specs.declared.heads.Head.{Head}
use Rattle.pfs_summaries.specs.declared.heads.RowKey.{RowKey}
use Rattle.pfs_summaries.specs.declared.numbers.Numbers.{Numbers}
use Rattle.pfs_summaries.specs.declared.numbers.Numbers.TheVariants as numbers
use Rattle.pfs_summaries.specs.declared.tallies.Tally.{Tally}
use Rattle.pfs_summaries.specs.FoundContents.{infos_of}
use Rattle.pfs_summaries.specs.Cells.{tally_of, is_hidden_by}
use Rattle.pfs_summaries.specs.RowValues.{values_of, count_of}
use Rattle.pfs_summaries.specs.Heads.{head_of, places_of, heading_of, row_cmp}

-- the name of a class
abbrev pub class_text : List (List ℕ) → Option Class → List ℕ
class_text names None = []
class_text names (Some class) = text_of names class.name

-- the numbers of a class's row. READ WRITE transactions have the cell 62, READ ONLY ones the cell 63
abbrev pub numbers_of : TableKind → (ℕ → Tally) → ℕ → Numbers
numbers_of Waits tally id = numbers.Times (tally id).stat
numbers_of Stages tally id = numbers.Times (tally id).stat
numbers_of Statements tally id = numbers.Statements (tally id).stat
numbers_of Transactions tally id = numbers.Transactions (tally 62).stat (tally 63).stat

-- a cell of the row was busy
abbrev pub is_skipped : TableKind → (ℕ → Tally) → ℕ → Bool
is_skipped Waits tally id = (tally id).busy
is_skipped Stages tally id = (tally id).busy
is_skipped Statements tally id = (tally id).busy
is_skipped Transactions tally id = (tally 62).busy || (tally 63).busy

-- the row stands: the class is of the kind, no cell of the row was busy, and something was counted where the head
-- doesn't stand by itself
abbrev pub is_listed : Setting → TableKind → Head → (ℕ → Tally) → ℕ → Bool
is_listed setting kind head tally id =
    is_class_of kind (class_at setting.classes id) && not (is_skipped kind tally id)
    && (head.stands || not (count_of (numbers_of kind tally id) == 0))

-- its place in the order
abbrev pub key_at : Head → ℕ → ℕ → RowKey
key_at head place id = record {
  thread_id = head.thread_id;
  user = head.user;
  host = head.host;
  class = id;
  place = place;
}

-- its values: the head's, the class's name, and the numbers
unfoldable pub row_values : Setting → TableKind → SummaryTable → Head → (ℕ → Tally) → ℕ → List RowValue
row_values setting kind which head tally id =
    heading_of which head ++ value.Text (class_text setting.names (class_at setting.classes id)) ∷ []
    ++ values_of (numbers_of kind tally id)

-- the row of a class, with its place in the order, where it stands
unfoldable pub class_rows : Setting → TableKind → SummaryTable → ℕ → (ℕ → Tally) → Head → ℕ
    → List (RowKey × List RowValue)
class_rows setting kind which place tally head id =
    if is_listed setting kind head tally id then (key_at head place id, row_values setting kind which head tally id)
    ∷ [] else []

-- the rows of a place: of all classes, whose ids go from 0 to 62
abbrev pub head_rows : Setting → TableKind → SummaryTable → ℕ → (ℕ → Tally) → Option Head
    → List (RowKey × List RowValue)
head_rows setting kind which place tally None = []
head_rows setting kind which place tally (Some head) =
    flat_map (class_rows setting kind which place tally head) (range_with_len 0 63)

abbrev pub place_rows : Setting → TableKind → SummaryTable → List (Option (List ℕ)) → (ℕ → ℕ → Tally) → ℕ
    → List (RowKey × List RowValue)
place_rows setting kind which infos tally place =
    head_rows setting kind which place (tally place) (head_of which setting.names infos place)

-- rows put to their places in the order, where no two have the same
abbrev pub put_row : List (RowKey × List RowValue) → RowKey × List RowValue → List (RowKey × List RowValue)
put_row rows row = insert_entry row_cmp rows row.0 row.1

abbrev pub put_rows : List (RowKey × List RowValue) → List (RowKey × List RowValue) → List (RowKey × List RowValue)
put_rows rows more = fold put_row rows more

-- the rows of a summary, in order
unfoldable pub ordered_rows : Setting → TableKind → SummaryTable → List (Option (List ℕ)) → (ℕ → ℕ → Tally)
    → List (RowKey × List RowValue)
ordered_rows setting kind which infos tally =
    put_rows [] (flat_map (place_rows setting kind which infos tally) (range_with_len 0 (places_of which)))

-- a row that the readings give, with its place in the order: of a place that has rows, and of a class that is listed
-- there
pub record IsGiven (setting : Setting) (kind : TableKind) (which : SummaryTable) (infos : List (Option (List ℕ)))
    (tally : ℕ → ℕ → Tally) (row : RowKey × List RowValue) : Type 0 where
  pub place : ℕ
  pub id : ℕ
  pub head : Head
  pub in_places : place < places_of which
  pub in_classes : id < 63
  pub opened : head_of which setting.names infos place ≡ Some head
  pub listed : is_listed setting kind head (tally place) id ≡ true
  pub is : row ≡ (key_at head place id, row_values setting kind which head (tally place) id)

-- what a summary shows by the readings: nothing where a busy info hides all of it
unfoldable pub summary_rows_of : Setting → TableKind → SummaryTable → List Reading → List (List RowValue)
summary_rows_of setting kind which readings =
    if list_any (is_hidden_by which) readings
    then []
    else map (λ (row : RowKey × List RowValue). row.1)
    (ordered_rows setting kind which (infos_of readings) (tally_of which (infos_of readings) readings))
