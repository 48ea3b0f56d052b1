-- Tables that are due, one behind the other, and only in one way.
use Rattle.std.proofs.Common.{◌≡◌, refl, ℕ, zero, suc, ◌+◌, ◌<◌, ◌≤◌, List, [], ◌∷◌, ◌++◌, get_or, length, take, sym, ◌∙◌, ap, subst, arith, true, Option, Some, None}
use Rattle.std.specs.List.{flat_map}
use Rattle.std.specs.Option.{is_some}
use Rattle.std.proofs.lemmas.Bool.{false≢true}
use Rattle.std.proofs.lemmas.List.{append-nil, map-append, take_all, take_more, length-append}
use Rattle.std.proofs.lemmas.List.Concat.{flat_map-append}
use Rattle.std.proofs.lemmas.List.Elements.{All-append, All-cons, All-nil, All-weaker}
use Rattle.pfs_classes.specs.declared.setting.Setting.{Setting}
use Rattle.pfs_finals.specs.Finals.{TableRead, table_read, table_report}
use Rattle.pfs_journal.specs.ReportLines.{table_lines}
use Rattle.pfs_journal.specs.declared.values.TableReport.{TableReport}
use Rattle.pfs_model.specs.EntryPlaces.{Placed}
use Rattle.pfs_readsets.specs.declared.target.Target.{Target}
use Rattle.pfs_readsets.proofs.EqualReadings.{RowsArePlaces}
use Rattle.pfs_rows.specs.declared.table.Reading.{Reading}
use Rattle.pfs_rows.specs.declared.table.Table.{Table}
use Rattle.pfs_runs.specs.PhaseFinals.{IsRead, reading_of}
use Rattle.pfs_check_faults.specs.FinalFaults.{AreTables}
use Rattle.pfs_check_finals.specs.Differences.{AreTablesCompared, DifferAt, IsTableCompared}
use Rattle.pfs_check_finals.specs.EndTables.{AreDue, AreDueOf, IsPutAs, IsReadAs}
use Rattle.pfs_check_finals.proofs.ListDifferences.{differ_behind}
use Rattle.pfs_check_finals.proofs.OneReading.{one_reads}

-- no table, and one more
pub due_none : (setting : Setting) (shown : Target → Reading) → AreDueOf setting shown [] []
due_none setting shown = record { reads = []; order_is = refl; each = All-nil (IsReadAs setting shown); are = refl }

one_more : (setting : Setting) (reads : List TableRead) (read : TableRead) → flat_map (table_report setting) (reads ++ read ∷ []) ≡ flat_map (table_report setting) reads ++ table_report setting read
one_more setting reads read = flat_map-append (table_report setting) reads (read ∷ []) ∙ ap (λ z. flat_map (table_report setting) reads ++ z) (append-nil (table_report setting read))

due_more : (setting : Setting) (shown : Target → Reading) (order : List Table) (table : Table) (old new : List TableReport) → AreDueOf setting shown order old
    → IsPutAs setting shown table old new → AreDueOf setting shown (order ++ table ∷ []) new
due_more setting shown order table old new p q =
    let read : TableRead = table_read table q.readings in
    record {
      reads = p.reads ++ read ∷ [];
      order_is = map-append (λ (r : TableRead). r.table) p.reads (read ∷ []) ∙ ap (λ (z : List Table). z ++ table ∷ []) p.order_is;
      each = All-append (IsReadAs setting shown) p.reads (read ∷ []) p.each (All-cons (IsReadAs setting shown) read [] q.read (All-nil (IsReadAs setting shown)));
      are = q.put ∙ (ap (λ (z : List TableReport). z ++ table_report setting read) p.are ∙ sym (one_more setting p.reads read));
    }

pub due_next : (setting : Setting) (shown : Target → Reading) (order : List Table) (i : ℕ) (d : Table) (old new : List TableReport) → i < length order
    → AreDueOf setting shown (take i order) old → IsPutAs setting shown (get_or order i d) old new → AreDueOf setting shown (take (i + 1) order) new
due_next setting shown order i d old new low p q =
    subst (λ z. AreDueOf setting shown z new) (sym (take_more order i d low)) (due_more setting shown (take i order) (get_or order i d) old new p q)

pub due_all : (setting : Setting) (shown : Target → Reading) (order : List Table) (i : ℕ) (tables : List TableReport) → length order ≤ i
    → AreDueOf setting shown (take i order) tables → AreDueOf setting shown order tables
due_all setting shown order i tables high p = subst (λ z. AreDueOf setting shown z tables) (take_all i order high) p

-- they are due in one way
pub one_due : RowsArePlaces → (setting : Setting) (shown : Target → Reading) (due other : List TableReport) → AreDue setting shown due → AreDue setting shown other → due ≡ other
one_due places setting shown due other p q =
    p.are ∙ ap (flat_map (table_report setting)) (one_reads places setting shown p.reads q.reads (p.order_is ∙ sym q.order_is) p.each q.each) ∙ sym q.are

-- the same as the rule has it
pub due_are : (setting : Setting) (content : ℕ → ℕ → List ℕ) (flags : ℕ → ℕ → ℕ) (so_far : List Placed) (tables : List TableReport)
    → AreDue setting (reading_of content flags so_far) tables → AreTables setting content flags so_far tables
due_are setting content flags so_far tables p = record {
  reads = p.reads;
  order = p.order_is;
  each = All-weaker (IsReadAs setting (reading_of content flags so_far)) (IsRead setting content flags so_far) (λ read is. record { whole = is.whole; shown = is.each }) p.reads p.each;
  are = p.are;
}

pub are_due : (setting : Setting) (content : ℕ → ℕ → List ℕ) (flags : ℕ → ℕ → ℕ) (so_far : List Placed) (tables : List TableReport)
    → AreTables setting content flags so_far tables → AreDue setting (reading_of content flags so_far) tables
are_due setting content flags so_far tables p = record {
  reads = p.reads;
  order_is = p.order;
  each = All-weaker (IsRead setting content flags so_far) (IsReadAs setting (reading_of content flags so_far)) (λ read is. record { whole = is.whole; each = is.shown }) p.reads p.each;
  are = p.are;
}

cons_head : (x y : TableReport) (xs ys : List TableReport) → x ∷ xs ≡ y ∷ ys → x ≡ y
cons_head x y xs ys e = cc

cons_tail : (x y : TableReport) (xs ys : List TableReport) → x ∷ xs ≡ y ∷ ys → xs ≡ ys
cons_tail x y xs ys e = cc

-- tables compared one by one
pub record AreSame (first : ℕ) (due printed : List TableReport) (at line : ℕ) : Type 0 where
  pub same : take at due ≡ take at printed
  pub line_is : line ≡ first + length (flat_map table_lines (take at due))

pub same_none : (first : ℕ) (due printed : List TableReport) → AreSame first due printed 0 first
same_none first due printed = record { same = refl; line_is = omega arith }

pub same_more : (first : ℕ) (due printed : List TableReport) (at line next : ℕ) (d : TableReport) → at < length due → at < length printed
    → AreSame first due printed at line → get_or due at d ≡ get_or printed at d → next ≡ line + length (table_lines (get_or due at d)) → AreSame first due printed (at + 1) next
same_more first due printed at line next d low high so_far one n =
    let more : length (flat_map table_lines (take (at + 1) due)) ≡ length (flat_map table_lines (take at due)) + length (flat_map table_lines (get_or due at d ∷ [])) =
    ap (λ (z : List TableReport). length (flat_map table_lines z)) (take_more due at d low)
    ∙ ap length (flat_map-append table_lines (take at due) (get_or due at d ∷ []))
    ∙ length-append (flat_map table_lines (take at due)) (flat_map table_lines (get_or due at d ∷ [])) in
    let alone : length (flat_map table_lines (get_or due at d ∷ [])) ≡ length (table_lines (get_or due at d)) = ap length (append-nil (table_lines (get_or due at d))) in
    record {
      same = take_more due at d low ∙ (ap (λ z. z ++ get_or due at d ∷ []) so_far.same ∙ ap (λ z. take at printed ++ z ∷ []) one) ∙ sym (take_more printed at d high);
      line_is = omega (arith, n, so_far.line_is, more, alone);
    }

long : (x : TableReport) (xs : List TableReport) (at off : ℕ)
    → length (table_lines x) + (length (flat_map table_lines (take at xs)) + off) ≡ length (flat_map table_lines (x ∷ take at xs)) + off
long x xs at off = omega (arith, length-append (table_lines x) (flat_map table_lines (take at xs)))

-- a table that differs behind those that are the same
pub table_differs : (first : ℕ) (due printed : List TableReport) (at line : ℕ) (a b : TableReport) (found : Option ℕ) → at < length due → at < length printed
    → AreSame first due printed at line → a ≡ get_or due at a → b ≡ get_or printed at b → is_some found ≡ true → IsTableCompared line a b found
    → AreTablesCompared first due printed found
table_differs first due printed at line a b None low high so_far p q some one = absurd (false≢true some)
table_differs first due printed at line a b (Some wrong) low high so_far p q some one = (
  length (flat_map table_lines (take at due)) + one.0,
  omega (arith, one.1, so_far.line_is),
  on due printed at low high p q so_far.same one.0 one.2,
) where
  on : (due printed : List TableReport) (at : ℕ) → at < length due → at < length printed → a ≡ get_or due at a → b ≡ get_or printed at b → take at due ≡ take at printed → (off : ℕ)
      → ((dues prints : List TableReport) → DifferAt (flat_map table_lines (a ∷ dues)) (flat_map table_lines (b ∷ prints)) off)
      → DifferAt (flat_map table_lines due) (flat_map table_lines printed) (length (flat_map table_lines (take at due)) + off)
  on [] printed at low high p q same off differ = absurd (omega (arith, low))
  on (x ∷ xs) [] at low high p q same off differ = absurd (omega (arith, high))
  on (x ∷ xs) (y ∷ ys) zero low high p q same off differ =
      subst (DifferAt (flat_map table_lines (x ∷ xs)) (flat_map table_lines (y ∷ ys))) (let e : off ≡ 0 + off = omega arith in e)
      (subst (λ z. DifferAt (flat_map table_lines (z ∷ xs)) (flat_map table_lines (y ∷ ys)) off) p
      (subst (λ z. DifferAt (flat_map table_lines (a ∷ xs)) (flat_map table_lines (z ∷ ys)) off) q (differ xs ys)))
  on (x ∷ xs) (y ∷ ys) (suc at) low high p q same off differ =
      let head : x ≡ y = cons_head x y (take at xs) (take at ys) same in
      let tail : take at xs ≡ take at ys = cons_tail x y (take at xs) (take at ys) same in
      let rest = on xs ys at (omega (arith, low)) (omega (arith, high)) p q tail off differ in
      subst (λ z. DifferAt (table_lines x ++ flat_map table_lines xs) (table_lines z ++ flat_map table_lines ys) (length (flat_map table_lines (x ∷ take at xs)) + off)) head
      (subst (DifferAt (table_lines x ++ flat_map table_lines xs) (table_lines x ++ flat_map table_lines ys)) (long x xs at off)
      (differ_behind (table_lines x) (flat_map table_lines xs) (flat_map table_lines ys) (length (flat_map table_lines (take at xs)) + off) rest))

-- one list ends behind those that are the same, or both do
pub tables_end : (first : ℕ) (due printed : List TableReport) (at line : ℕ) → AreSame first due printed at line → at ≤ length due → at ≤ length printed
    → (at < length due → at < length printed → ⊥) → (length due ≡ length printed → ⊥) → AreTablesCompared first due printed (Some line)
tables_end first due printed at line so_far low high ended apart =
    (length (flat_map table_lines (take at due)), so_far.line_is, on due printed at low high ended (λ p q. apart (sym p ∙ q)) so_far.same) where
      on : (due printed : List TableReport) (at : ℕ) → at ≤ length due → at ≤ length printed → (at < length due → at < length printed → ⊥)
          → (at ≡ length due → at ≡ length printed → ⊥) → take at due ≡ take at printed
          → DifferAt (flat_map table_lines due) (flat_map table_lines printed) (length (flat_map table_lines (take at due)))
      on [] [] zero low high ended apart same = apart refl refl
      on [] (y ∷ ys) zero low high ended apart same = tt
      on (x ∷ xs) [] zero low high ended apart same = tt
      on (x ∷ xs) (y ∷ ys) zero low high ended apart same = absurd (ended (omega arith) (omega arith))
      on [] ys (suc at) low high ended apart same = absurd (omega (arith, low))
      on (x ∷ xs) [] (suc at) low high ended apart same = absurd (omega (arith, high))
      on (x ∷ xs) (y ∷ ys) (suc at) low high ended apart same =
          let head : x ≡ y = cons_head x y (take at xs) (take at ys) same in
          let tail : take at xs ≡ take at ys = cons_tail x y (take at xs) (take at ys) same in
          let rest = on xs ys at (omega (arith, low)) (omega (arith, high)) (λ p q. ended (omega (arith, p)) (omega (arith, q))) (λ p q. apart (ap suc p) (ap suc q)) tail in
          subst (λ z. DifferAt (table_lines x ++ flat_map table_lines xs) (table_lines z ++ flat_map table_lines ys) (length (flat_map table_lines (x ∷ take at xs)))) head
          (subst (DifferAt (table_lines x ++ flat_map table_lines xs) (table_lines x ++ flat_map table_lines ys)) (sym (length-append (table_lines x) (flat_map table_lines (take at xs))))
          (differ_behind (table_lines x) (flat_map table_lines xs) (flat_map table_lines ys) (length (flat_map table_lines (take at xs))) rest))

pub tables_all : (first : ℕ) (due printed : List TableReport) (at line : ℕ) → AreSame first due printed at line → length due ≤ at → length printed ≤ at → due ≡ printed
tables_all first due printed at line so_far low high = sym (take_all at due low) ∙ so_far.same ∙ take_all at printed high
