-- Tables of two phases' ends of which the summaries have the same rows: those that a load shows are the same.
use Rattle.std.proofs.Common.{◌≡◌, ℕ, suc, ◌+◌, ◌==◌, Bool, true, false, ◌&&◌, ◌||◌, cond, List, [], ◌∷◌, ◌++◌, length, map, filter, refl, ap, sym, subst, ◌∙◌, arith}
use Rattle.std.specs.Prelude.{if◌then◌else◌}
use Rattle.std.specs.List.{flat_map, list_any}
use Rattle.std.specs.Str.{bytes_eq}
use Rattle.std.proofs.lemmas.Bool.{and_parts}
use Rattle.std.proofs.lemmas.Bool.Decides.{nat_tests}
use Rattle.std.proofs.lemmas.List.Concat.{flat_map-cons}
use Rattle.std.proofs.lemmas.List.Elements.{filter-append}
use Rattle.std.proofs.lemmas.Slice.Eq.{bytes_eq-Decides}
use Rattle.pfs_classes.specs.declared.setting.Setting.{Setting}
use Rattle.pfs_finals.specs.Finals.{TableRead, final_order, shown_rows, table_if, table_report}
use Rattle.pfs_journal.specs.declared.report.PhaseParts.{PhaseParts}
use Rattle.pfs_journal.specs.declared.values.TableReport.{TableReport}
use Rattle.pfs_law_agreed.specs.SameRows.{HaveSameRows}
use Rattle.pfs_law_summaries.specs.ReportTables.{rows_named}
use Rattle.pfs_rows.specs.Tables.{table_name}
use Rattle.pfs_rows.specs.declared.table.SummaryTable.TheVariants.{Global}
use Rattle.pfs_rows.specs.declared.table.Table.{Table}
use Rattle.pfs_rows.specs.declared.table.Table.TheVariants.{DigestSummary, Summary}
use Rattle.pfs_rows.specs.declared.table.TableKind.TheVariants.{Stages, Statements, Transactions, Waits}
use Rattle.pfs_text.specs.declared.values.RowValue.{RowValue}
use Rattle.pfs_law_load.specs.LoadText.{is_named, is_summary, summaries}

-- the name is that of a table which a load shows
abbrev is_shown : List ℕ → Bool
is_shown name = list_any (λ table. bytes_eq name (table_name table)) summaries

abbrev tables_in : List TableRead → List Table
tables_in reads = map (λ (read : TableRead). read.table) reads

-- how many of the tables have the name
abbrev named_in : List ℕ → List Table → ℕ
named_in name [] = 0
named_in name (table ∷ tables) = cond {A = ℕ} (bytes_eq (table_name table) name) 1 0 + named_in name tables

-- no two have one name
abbrev are_apart : List Table → Bool
are_apart [] = true
are_apart (table ∷ tables) = (named_in (table_name table) tables == 0) && are_apart tables

order_apart : are_apart final_order ≡ true
order_apart = refl

zero_by : (n : ℕ) → (n == 0) ≡ true → n ≡ 0
zero_by n h = grind (arith, nat_tests, h)

-- ---- a table in front

stands_if : (table : Table) (row : List RowValue) (rows : List (List RowValue)) → table_if table (row ∷ rows) ≡ record { name = table_name table; rows = row ∷ rows } ∷ []
stands_if table row rows = ap (λ b. if b then [] else record { name = table_name table; rows = row ∷ rows } ∷ []) (some (length rows)) where
  some : (n : ℕ) → (suc n == 0) ≡ false
  some n = grind arith

skipped : (name : List ℕ) (table : Table) (rows : List (List RowValue)) (rest : List TableReport) → bytes_eq (table_name table) name ≡ false → rows_named name (table_if table rows ++ rest) ≡ rows_named name rest
skipped name table [] rest q = refl
skipped name table (row ∷ rows) rest q = ap (λ (l : List TableReport). rows_named name (l ++ rest)) (stands_if table row rows) ∙ ap (λ b. if b then row ∷ rows else rows_named name rest) q

taken : (name : List ℕ) (table : Table) (rows : List (List RowValue)) (rest : List TableReport) → bytes_eq (table_name table) name ≡ true → rows_named name rest ≡ [] → rows_named name (table_if table rows ++ rest) ≡ rows
taken name table [] rest q none = none
taken name table (row ∷ rows) rest q none = ap (λ (l : List TableReport). rows_named name (l ++ rest)) (stands_if table row rows) ∙ ap (λ b. if b then row ∷ rows else rows_named name rest) q

-- what a load shows of it
kept_by : (table : Table) (rows : List (List RowValue)) → is_shown (table_name table) ≡ false → filter is_summary (table_if table rows) ≡ []
unfolding is_named
kept_by table [] h = refl
kept_by table (row ∷ rows) h = ap (filter is_summary) (stands_if table row rows) ∙ ap (λ b. cond b (record { name = table_name table; rows = row ∷ rows } ∷ []) []) h

module _ (setting : Setting) where
  abbrev reports : List TableRead → List TableReport
  reports reads = flat_map (table_report setting) reads

  abbrev rows_of : TableRead → List (List RowValue)
  rows_of read = shown_rows setting read.table read.readings

  none_named : (name : List ℕ) (reads : List TableRead) → named_in name (tables_in reads) ≡ 0 → rows_named name (reports reads) ≡ []
  none_named name [] h = refl
  none_named name (read ∷ reads) h =
      ap (rows_named name) (flat_map-cons (table_report setting) read reads)
      ∙ at (bytes_eq (table_name read.table) name) refl h (none_named name reads) where
        at : (b : Bool) → bytes_eq (table_name read.table) name ≡ b → cond {A = ℕ} b 1 0 + named_in name (tables_in reads) ≡ 0
            → (named_in name (tables_in reads) ≡ 0 → rows_named name (reports reads) ≡ [])
            → rows_named name (table_report setting read ++ reports reads) ≡ []
        at true q h rest = absurd (omega (arith, h))
        at false q h rest = skipped name read.table (rows_of read) (reports reads) q ∙ rest (omega (arith, h))

  -- both have these rows for each name that is shown
  abbrev AreSame : List TableReport → List TableReport → Type 0
  AreSame ones others = (name : List ℕ) → is_shown name ≡ true → rows_named name ones ≡ rows_named name others

  module _ (x y : TableRead) (xs ys : List TableRead) (t : x.table ≡ y.table) (ts : tables_in xs ≡ tables_in ys) (apart : named_in (table_name x.table) (tables_in xs) ≡ 0) (same : AreSame (reports (x ∷ xs)) (reports (y ∷ ys))) where
    same_front : (name : List ℕ) → is_shown name ≡ true → rows_named name (table_if x.table (rows_of x) ++ reports xs) ≡ rows_named name (table_if x.table (rows_of y) ++ reports ys)
    same_front name shown =
        ap (rows_named name) (sym (flat_map-cons (table_report setting) x xs))
        ∙ (same name shown
        ∙ (ap (rows_named name) (flat_map-cons (table_report setting) y ys)
        ∙ ap (λ table. rows_named name (table_if table (rows_of y) ++ reports ys)) (sym t)))

    self : bytes_eq (table_name x.table) (table_name x.table) ≡ true
    self = (bytes_eq-Decides (table_name x.table) (table_name x.table)).1 refl

    none_x : (name : List ℕ) → table_name x.table ≡ name → rows_named name (reports xs) ≡ []
    none_x name e = none_named name xs (subst (λ n. named_in n (tables_in xs) ≡ 0) e apart)

    none_y : (name : List ℕ) → table_name x.table ≡ name → rows_named name (reports ys) ≡ []
    none_y name e = none_named name ys (subst (λ (tables : List Table). named_in name tables ≡ 0) ts (subst (λ n. named_in n (tables_in xs) ≡ 0) e apart))

    behind : AreSame (reports xs) (reports ys)
    behind name shown = at (bytes_eq (table_name x.table) name) refl where
      at : (b : Bool) → bytes_eq (table_name x.table) name ≡ b → rows_named name (reports xs) ≡ rows_named name (reports ys)
      at true q = let e : table_name x.table ≡ name = (bytes_eq-Decides (table_name x.table) name).0 q in none_x name e ∙ sym (none_y name e)
      at false q =
          sym (skipped name x.table (rows_of x) (reports xs) q) ∙ (same_front name shown ∙ skipped name x.table (rows_of y) (reports ys) q)

    first : filter is_summary (table_report setting x) ≡ filter is_summary (table_report setting y)
    first = at (is_shown (table_name x.table)) refl where
      at : (b : Bool) → is_shown (table_name x.table) ≡ b → filter is_summary (table_report setting x) ≡ filter is_summary (table_report setting y)
      at false q = kept_by x.table (rows_of x) q ∙ sym (kept_by y.table (rows_of y) (subst (λ (table : Table). is_shown (table_name table) ≡ false) t q))
      at true q =
          let name = table_name x.table in
          let rows : rows_of x ≡ rows_of y =
          sym (taken name x.table (rows_of x) (reports xs) self (none_x name refl)) ∙ (same_front name q ∙ taken name x.table (rows_of y) (reports ys) self (none_y name refl)) in
          ap (λ (rows : List (List RowValue)). filter is_summary (table_if x.table rows)) rows ∙ ap (λ table. filter is_summary (table_if table (rows_of y))) t

  same_reports : (reads others : List TableRead) → tables_in reads ≡ tables_in others → are_apart (tables_in reads) ≡ true → AreSame (reports reads) (reports others) → filter is_summary (reports reads) ≡ filter is_summary (reports others)
  same_reports [] [] e apart same = refl
  same_reports [] (y ∷ ys) e apart same = cc
  same_reports (x ∷ xs) [] e apart same = cc
  same_reports (x ∷ xs) (y ∷ ys) e apart same =
      let t : x.table ≡ y.table = cc in
      let ts : tables_in xs ≡ tables_in ys = cc in
      let parts = and_parts (named_in (table_name x.table) (tables_in xs) == 0) (are_apart (tables_in xs)) apart in
      let none : named_in (table_name x.table) (tables_in xs) ≡ 0 = zero_by (named_in (table_name x.table) (tables_in xs)) parts.0 in
      ap (filter is_summary) (flat_map-cons (table_report setting) x xs)
      ∙ (filter-append is_summary (table_report setting x) (reports xs)
      ∙ (ap (λ (z : List TableReport). z ++ filter is_summary (reports xs)) (first x y xs ys t ts none same)
      ∙ (ap (λ (z : List TableReport). filter is_summary (table_report setting y) ++ z) (same_reports xs ys ts parts.1 (behind x y xs ys t ts none same))
      ∙ (sym (filter-append is_summary (table_report setting y) (reports ys))
      ∙ ap (filter is_summary) (sym (flat_map-cons (table_report setting) y ys))))))

-- ---- by the names of the five

by_name : (P : List ℕ → Type 0) (name : List ℕ) (table : Table) → P (table_name table) → bytes_eq name (table_name table) ≡ true → P name
by_name P name table p q = subst P (sym ((bytes_eq-Decides name (table_name table)).0 q)) p

-- a name that is shown is one of these
any_of : (P : Type 0) (a b : Bool) → (a ≡ true → P) → (b ≡ true → P) → (a || b) ≡ true → P
any_of P true b f g h = f refl
any_of P false b f g h = g h

module _ (one other : PhaseParts) (same : HaveSameRows one other) where
  pub rows_same : (name : List ℕ) → is_shown name ≡ true → rows_named name one.tables ≡ rows_named name other.tables
  rows_same name =
      let P : List ℕ → Type 0 = λ n. rows_named n one.tables ≡ rows_named n other.tables in
      let is : Table → Bool = λ table. bytes_eq name (table_name table) in
      any_of (P name) (is (Summary Waits Global)) (is (Summary Stages Global) || (is (Summary Statements Global) || (is (Summary Transactions Global) || (is DigestSummary || false))))
      (by_name P name (Summary Waits Global) (same.global Waits))
      (any_of (P name) (is (Summary Stages Global)) (is (Summary Statements Global) || (is (Summary Transactions Global) || (is DigestSummary || false)))
      (by_name P name (Summary Stages Global) (same.global Stages))
      (any_of (P name) (is (Summary Statements Global)) (is (Summary Transactions Global) || (is DigestSummary || false))
      (by_name P name (Summary Statements Global) (same.global Statements))
      (any_of (P name) (is (Summary Transactions Global)) (is DigestSummary || false)
      (by_name P name (Summary Transactions Global) (same.global Transactions))
      (any_of (P name) (is DigestSummary) false
      (by_name P name DigestSummary same.digests)
      (λ e. cc)))))

  -- so what is shown of both is the same, where both have their tables by the order
  pub same_shown : (setting : Setting) (reads others : List TableRead) → tables_in reads ≡ final_order → tables_in others ≡ final_order → one.tables ≡ flat_map (table_report setting) reads → other.tables ≡ flat_map (table_report setting) others
      → filter is_summary one.tables ≡ filter is_summary other.tables
  same_shown setting reads others a b c d =
      ap (filter is_summary) c
      ∙ (same_reports setting reads others (a ∙ sym b) (subst (λ (tables : List Table). are_apart tables ≡ true) (sym a) order_apart)
      (λ name shown. sym (ap (rows_named name) c) ∙ (rows_same name shown ∙ ap (rows_named name) d))
      ∙ ap (filter is_summary) (sym d))
