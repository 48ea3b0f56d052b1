-- The rows rest on the tallies of the places and cells that there are.
use Rattle.std.proofs.Common.{ℕ, ◌≡◌, ◌<◌, ◌≤◌, Bool, ◌&&◌, ◌||◌, not, List, [], ◌∷◌, ◌++◌, Option, Some, None, refl, sym, ap, ◌∙◌, arith}
use Rattle.std.specs.Prelude.{◌==◌, if◌then◌else◌, fold}
use Rattle.std.specs.Prelude.{map}
use Rattle.std.specs.List.{list_any}
use Rattle.std.proofs.Common.{true, false, subst}
use Rattle.std.proofs.lemmas.Bool.{cond-true, cond-false}
use Rattle.pfs_rows.specs.declared.table.Reading.{Reading}
use Rattle.pfs_summaries.specs.FoundContents.{infos_of}
use Rattle.pfs_summaries.specs.Cells.{tally_of, is_hidden_by}
use Rattle.pfs_summaries.specs.ReadingSteps.{tally_in, AreTallies}
use Rattle.pfs_rows.specs.declared.table.TableKind.{TableKind}
use Rattle.pfs_rows.specs.declared.table.TableKind.TheVariants.{Waits, Stages, Statements, Transactions}
use Rattle.pfs_rows.specs.declared.table.SummaryTable.{SummaryTable}
use Rattle.pfs_rows.specs.declared.table.SummaryTable.TheVariants.{ByThread, ByAccount, ByUser, ByHost, Global}
use Rattle.pfs_classes.specs.declared.setting.Setting.{Setting}
use Rattle.pfs_classes.specs.Registry.{class_at}
use Rattle.pfs_readsets.specs.TablePlaces.{is_class_of}
use Rattle.pfs_text.specs.declared.values.RowValue.{RowValue}
use Rattle.pfs_text.specs.declared.values.RowValue.TheVariants as value
use Rattle.pfs_summaries.specs.declared.heads.Head.{Head}
use Rattle.pfs_summaries.specs.declared.heads.RowKey.{RowKey}
use Rattle.pfs_summaries.specs.declared.numbers.Numbers.{Numbers}
use Rattle.pfs_summaries.specs.declared.numbers.Numbers.TheVariants as numbers
use Rattle.pfs_summaries.specs.declared.tallies.Tally.{Tally}
use Rattle.pfs_summaries.specs.RowValues.{values_of, count_of}
use Rattle.pfs_summaries.specs.Heads.{head_of, places_of, heading_of}
use Rattle.pfs_summaries.specs.Summaries.{class_text, numbers_of, is_skipped, key_at, row_values, class_rows, head_rows, place_rows, put_row, ordered_rows, summary_rows_of}
use Rattle.pfs_summaries.proofs.NumberLists.{made_same}

numbers_same : (kind : TableKind) (a b : ℕ → Tally) (id : ℕ) → id < 63 → ((cell : ℕ) → cell < 64 → a cell ≡ b cell) → numbers_of kind a id ≡ numbers_of kind b id
numbers_same Waits a b id h same = ap (λ (t : Tally). numbers.Times t.stat) (same id (omega arith))
numbers_same Stages a b id h same = ap (λ (t : Tally). numbers.Times t.stat) (same id (omega arith))
numbers_same Statements a b id h same = ap (λ (t : Tally). numbers.Statements t.stat) (same id (omega arith))
numbers_same Transactions a b id h same =
    ap (λ (t : Tally). numbers.Transactions t.stat (a 63).stat) (same 62 (omega arith)) ∙ ap (λ (t : Tally). numbers.Transactions (b 62).stat t.stat) (same 63 (omega arith))

skipped_same : (kind : TableKind) (a b : ℕ → Tally) (id : ℕ) → id < 63 → ((cell : ℕ) → cell < 64 → a cell ≡ b cell) → is_skipped kind a id ≡ is_skipped kind b id
skipped_same Waits a b id h same = ap (λ (t : Tally). t.busy) (same id (omega arith))
skipped_same Stages a b id h same = ap (λ (t : Tally). t.busy) (same id (omega arith))
skipped_same Statements a b id h same = ap (λ (t : Tally). t.busy) (same id (omega arith))
skipped_same Transactions a b id h same =
    ap (λ (t : Tally). t.busy || (a 63).busy) (same 62 (omega arith)) ∙ ap (λ (t : Tally). (b 62).busy || t.busy) (same 63 (omega arith))

class_same : (setting : Setting) (kind : TableKind) (which : SummaryTable) (place : ℕ) (a b : ℕ → Tally) (head : Head) (id : ℕ) → id < 63 → ((cell : ℕ) → cell < 64 → a cell ≡ b cell)
    → class_rows setting kind which place a head id ≡ class_rows setting kind which place b head id
unfolding class_rows row_values
class_same setting kind which place a b head id h same =
    let text : List ℕ = class_text setting.names (class_at setting.classes id) in
    let rows : Numbers → Bool → List (RowKey × List RowValue) = λ (n : Numbers) (s : Bool).
    if is_class_of kind (class_at setting.classes id) && not s && (head.stands || not (count_of n == 0))
    then (key_at head place id, heading_of which head ++ value.Text text ∷ [] ++ values_of n) ∷ [] else [] in
    ap (λ (n : Numbers). rows n (is_skipped kind a id)) (numbers_same kind a b id h same)
    ∙ ap (λ (s : Bool). rows (numbers_of kind b id) s) (skipped_same kind a b id h same)

head_same : (setting : Setting) (kind : TableKind) (which : SummaryTable) (place : ℕ) (a b : ℕ → Tally) (head : Option Head) → ((cell : ℕ) → cell < 64 → a cell ≡ b cell)
    → head_rows setting kind which place a head ≡ head_rows setting kind which place b head
head_same setting kind which place a b None same = refl
head_same setting kind which place a b (Some head) same =
    made_same (class_rows setting kind which place a head) (class_rows setting kind which place b head) 0 63 (λ id low high. class_same setting kind which place a b head id (omega arith) same)

few_places : (which : SummaryTable) → places_of which ≤ 32
few_places ByThread = omega arith
few_places ByAccount = omega arith
few_places ByUser = omega arith
few_places ByHost = omega arith
few_places Global = omega arith

pub listed_same : (setting : Setting) (kind : TableKind) (which : SummaryTable) (infos : List (Option (List ℕ))) (a b : ℕ → ℕ → Tally) → ((key cell : ℕ) → key < 32 → cell < 64 → a key cell ≡ b key cell)
    → ordered_rows setting kind which infos a ≡ ordered_rows setting kind which infos b
unfolding ordered_rows
listed_same setting kind which infos a b same =
    let few : places_of which ≤ 32 = few_places which in
    ap (λ (rows : List (RowKey × List RowValue)). fold put_row [] rows)
    (made_same (place_rows setting kind which infos a) (place_rows setting kind which infos b) 0 (places_of which)
    (λ place low high. head_same setting kind which place (a place) (b place) (head_of which setting.names infos place) (λ cell lc. same place cell (omega arith) lc)))

abbrev values_in : List (RowKey × List RowValue) → List (List RowValue)
values_in rows = map (λ (row : RowKey × List RowValue). row.1) rows

-- a table that is hidden, and one that isn't
pub hidden : (setting : Setting) (kind : TableKind) (which : SummaryTable) (readings : List Reading) → list_any (is_hidden_by which) readings ≡ true → [] ≡ summary_rows_of setting kind which readings
unfolding summary_rows_of
hidden setting kind which readings on =
    sym (cond-true (list_any (is_hidden_by which) readings) [] (values_in (ordered_rows setting kind which (infos_of readings) (tally_of which (infos_of readings) readings))) on)

pub shown : (setting : Setting) (kind : TableKind) (which : SummaryTable) (readings : List Reading) (infos : List (Option (List ℕ))) (tallies : List Tally) (rows : List (List RowValue))
    → list_any (is_hidden_by which) readings ≡ false → infos ≡ infos_of readings → AreTallies which infos readings tallies → rows ≡ values_in (ordered_rows setting kind which infos (tally_in tallies))
    → rows ≡ summary_rows_of setting kind which readings
unfolding summary_rows_of
shown setting kind which readings infos tallies rows off e are w =
    let by : List (Option (List ℕ)) → List (List RowValue) = λ (is : List (Option (List ℕ))). values_in (ordered_rows setting kind which is (tally_of which is readings)) in
    w
    ∙ (ap (λ (z : List (RowKey × List RowValue)). values_in z) (listed_same setting kind which infos (tally_in tallies) (tally_of which infos readings) are.each)
    ∙ (ap by e
    ∙ sym (cond-false (list_any (is_hidden_by which) readings) [] (by (infos_of readings)) off)))

-- the same for lists that are lent
pub shown_at : (setting : Setting) (kind : TableKind) (which : SummaryTable) (readings : List Reading) (infos a b : List (Option (List ℕ))) (tallies t : List Tally) (rows out : List (List RowValue))
    → list_any (is_hidden_by which) readings ≡ false → infos ≡ infos_of readings → a ≡ infos → AreTallies which a readings tallies → b ≡ infos → t ≡ tallies
    → rows ≡ values_in (ordered_rows setting kind which b (tally_in t)) → out ≡ rows → out ≡ summary_rows_of setting kind which readings
shown_at setting kind which readings infos a b tallies t rows out off e ea are eb et w o =
    let P : List (Option (List ℕ)) → Type 0 = λ (is : List (Option (List ℕ))). AreTallies which is readings tallies in
    let Q : List Tally → Type 0 = λ (ts : List Tally). AreTallies which b readings ts in
    let lent : AreTallies which b readings tallies = subst P (ea ∙ sym eb) are in
    o ∙ shown setting kind which readings b t rows off (eb ∙ e) (subst Q (sym et) lent) w
