-- The rows of a summary in a report are those that its readings give.
use Rattle.std.proofs.Common.{◌≡◌, ℕ, suc, ◌+◌, ◌==◌, Bool, true, false, cond, List, [], ◌∷◌, ◌++◌, length, map, refl, ap, subst, ◌∙◌, arith}
use Rattle.std.specs.Prelude.{All, Contains, if◌then◌else◌}
use Rattle.std.specs.List.{flat_map, list_any}
use Rattle.std.specs.Str.{bytes_eq}
use Rattle.std.proofs.lemmas.List.Concat.{flat_map-cons}
use Rattle.std.proofs.lemmas.List.Elements.{All-contains, All-weaker}
use Rattle.std.proofs.lemmas.Slice.Eq.{bytes_eq-Decides}
use Rattle.pfs_classes.specs.declared.setting.Setting.{Setting}
use Rattle.pfs_finals.specs.Finals.{TableRead, final_order, shown_rows, table_if, table_report}
use Rattle.pfs_journal.specs.declared.values.TableReport.{TableReport}
use Rattle.pfs_readsets.specs.TablePlaces.{scope_of}
use Rattle.pfs_readsets.specs.ReadSets.{IsReadSet, target_of}
use Rattle.pfs_readsets.specs.declared.target.Target.{Target}
use Rattle.pfs_readsets.specs.declared.target.Target.TheVariants.{Row, Word}
use Rattle.pfs_rows.specs.Tables.{table_name}
use Rattle.pfs_rows.specs.declared.table.SummaryTable.{SummaryTable}
use Rattle.pfs_rows.specs.declared.table.SummaryTable.TheVariants.{ByThread, ByAccount, ByUser, ByHost, Global}
use Rattle.pfs_rows.specs.declared.table.Table.{Table}
use Rattle.pfs_rows.specs.declared.table.Table.TheVariants.{Summary, DigestSummary}
use Rattle.pfs_rows.specs.declared.table.TableKind.{TableKind}
use Rattle.pfs_rows.specs.declared.table.TableKind.TheVariants.{Waits, Stages, Statements, Transactions}
use Rattle.pfs_rows.specs.declared.table.Reading.{Reading}
use Rattle.pfs_runs.specs.PhaseFinals.{IsRead, shown_row, reading_of, word_version}
use Rattle.pfs_summaries.specs.Cells.{is_hidden_by, tally_of}
use Rattle.pfs_summaries.specs.FoundContents.{infos_of}
use Rattle.pfs_summaries.specs.Summaries.{ordered_rows, summary_rows_of}
use Rattle.pfs_summaries.specs.declared.heads.RowKey.{RowKey}
use Rattle.pfs_law_conservation.specs.RunTerms.{Run, entries_to}
use Rattle.pfs_text.specs.declared.values.RowValue.{RowValue}
use Rattle.pfs_law_summaries.specs.ReportTables.{rows_named}
use Rattle.pfs_law_summaries.proofs.ListMembers.{first, later}
use Rattle.pfs_law_summaries.proofs.TableReadings.{IsShown, shows}

-- how many of the tables have the name
abbrev named_in : List ℕ → List Table → ℕ
named_in name [] = 0
named_in name (table ∷ tables) = cond {A = ℕ} (bytes_eq (table_name table) name) 1 0 + named_in name tables

-- each summary has its name alone among the tables at a phase's end
named_once : (kind : TableKind) (which : SummaryTable) → named_in (table_name (Summary kind which)) final_order ≡ 1
named_once Waits ByThread = refl
named_once Waits ByAccount = refl
named_once Waits ByUser = refl
named_once Waits ByHost = refl
named_once Waits Global = refl
named_once Stages ByThread = refl
named_once Stages ByAccount = refl
named_once Stages ByUser = refl
named_once Stages ByHost = refl
named_once Stages Global = refl
named_once Statements ByThread = refl
named_once Statements ByAccount = refl
named_once Statements ByUser = refl
named_once Statements ByHost = refl
named_once Statements Global = refl
named_once Transactions ByThread = refl
named_once Transactions ByAccount = refl
named_once Transactions ByUser = refl
named_once Transactions ByHost = refl
named_once Transactions Global = refl

abbrev tables_in : List TableRead → List Table
tables_in reads = map (λ (read : TableRead). read.table) reads

-- a table with rows stands
stands_if : (table : Table) (row : List RowValue) (rows : List (List RowValue)) → table_if table (row ∷ rows) ≡ record { name = table_name table; rows = row ∷ rows } ∷ []
stands_if table row rows = ap (λ b. if b then [] else record { name = table_name table; rows = row ∷ rows } ∷ []) (some (length rows)) where
  some : (n : ℕ) → (suc n == 0) ≡ false
  some n = grind arith

-- a table of another name stands in no one's way
skipped : (name : List ℕ) (table : Table) (rows : List (List RowValue)) (rest : List TableReport) → bytes_eq (table_name table) name ≡ false → rows_named name (table_if table rows ++ rest) ≡ rows_named name rest
skipped name table [] rest q = refl
skipped name table (row ∷ rows) rest q = ap (λ (l : List TableReport). rows_named name (l ++ rest)) (stands_if table row rows) ∙ ap (λ b. if b then row ∷ rows else rows_named name rest) q

taken : (name : List ℕ) (table : Table) (rows : List (List RowValue)) (rest : List TableReport) → bytes_eq (table_name table) name ≡ true → rows_named name rest ≡ [] → rows_named name (table_if table rows ++ rest) ≡ rows
taken name table [] rest q none = none
taken name table (row ∷ rows) rest q none = ap (λ (l : List TableReport). rows_named name (l ++ rest)) (stands_if table row rows) ∙ ap (λ b. if b then row ∷ rows else rows_named name rest) q

none_named : (setting : Setting) (name : List ℕ) (reads : List TableRead) → named_in name (tables_in reads) ≡ 0 → rows_named name (flat_map (table_report setting) reads) ≡ []
none_named setting name [] h = refl
none_named setting name (read ∷ reads) h =
    ap (rows_named name) (flat_map-cons (table_report setting) read reads)
    ∙ at (bytes_eq (table_name read.table) name) refl h (none_named setting name reads) where
      at : (b : Bool) → bytes_eq (table_name read.table) name ≡ b → cond {A = ℕ} b 1 0 + named_in name (tables_in reads) ≡ 0
          → (named_in name (tables_in reads) ≡ 0 → rows_named name (flat_map (table_report setting) reads) ≡ [])
          → rows_named name (table_report setting read ++ flat_map (table_report setting) reads) ≡ []
      at true q h rest = absurd (omega (arith, h))
      at false q h rest = skipped name read.table (shown_rows setting read.table read.readings) (flat_map (table_report setting) reads) q ∙ rest (omega (arith, h))

pub record IsFound (setting : Setting) (name : List ℕ) (reads : List TableRead) : Type 0 where
  pub read : TableRead
  pub among : Contains reads read
  pub named : bytes_eq (table_name read.table) name ≡ true
  pub rows : rows_named name (flat_map (table_report setting) reads) ≡ shown_rows setting read.table read.readings

found_read : (setting : Setting) (name : List ℕ) (reads : List TableRead) → named_in name (tables_in reads) ≡ 1 → IsFound setting name reads
found_read setting name [] h = absurd (omega (arith, h))
found_read setting name (read ∷ reads) h = at (bytes_eq (table_name read.table) name) refl h (found_read setting name reads) where
  at : (b : Bool) → bytes_eq (table_name read.table) name ≡ b → cond {A = ℕ} b 1 0 + named_in name (tables_in reads) ≡ 1
      → (named_in name (tables_in reads) ≡ 1 → IsFound setting name reads) → IsFound setting name (read ∷ reads)
  at true q h rest = record {
    read = read;
    among = first read reads;
    named = q;
    rows = ap (rows_named name) (flat_map-cons (table_report setting) read reads)
        ∙ taken name read.table (shown_rows setting read.table read.readings) (flat_map (table_report setting) reads) q (none_named setting name reads (omega (arith, h)));
  }
  at false q h rest = on (rest (omega (arith, h))) where
    on : IsFound setting name reads → IsFound setting name (read ∷ reads)
    on f = record {
      read = f.read;
      among = later read reads f.read f.among;
      named = f.named;
      rows = ap (rows_named name) (flat_map-cons (table_report setting) read reads)
          ∙ (skipped name read.table (shown_rows setting read.table read.readings) (flat_map (table_report setting) reads) q ∙ f.rows);
    }

-- the reading of a table in a report
pub record IsTableRead (setting : Setting) (table : Table) (reads : List TableRead) : Type 0 where
  pub read : TableRead
  pub among : Contains reads read
  pub table_is : read.table ≡ table
  pub rows : rows_named (table_name table) (flat_map (table_report setting) reads) ≡ shown_rows setting table read.readings

abbrev pub AreApartNamed : Type 0
AreApartNamed = (a b : Table) → table_name a ≡ table_name b → a ≡ b

read_of : AreApartNamed → (setting : Setting) (table : Table) (reads : List TableRead) → named_in (table_name table) final_order ≡ 1 → tables_in reads ≡ final_order → IsTableRead setting table reads
read_of differ setting table reads once order = on (found_read setting (table_name table) reads (ap (named_in (table_name table)) order ∙ once)) where
  on : IsFound setting (table_name table) reads → IsTableRead setting table reads
  on f =
      let e : f.read.table ≡ table = differ f.read.table table ((bytes_eq-Decides (table_name f.read.table) (table_name table)).0 f.named) in
      record {
        read = f.read;
        among = f.among;
        table_is = e;
        rows = f.rows ∙ ap (λ t. shown_rows setting t f.read.readings) e;
      }

pub summary_read : AreApartNamed → (setting : Setting) (kind : TableKind) (which : SummaryTable) (reads : List TableRead) → tables_in reads ≡ final_order → IsTableRead setting (Summary kind which) reads
summary_read differ setting kind which reads order = read_of differ setting (Summary kind which) reads (named_once kind which) order

pub digest_read : AreApartNamed → (setting : Setting) (reads : List TableRead) → tables_in reads ≡ final_order → IsTableRead setting DigestSummary reads
digest_read differ setting reads order = read_of differ setting DigestSummary reads refl order

-- what was read of it is what stands under the phase's end
pub read_shows : (run : Run) (phase : ℕ) (flags : ℕ → ℕ → ℕ) (table : Table) (reads : List TableRead) → All (IsRead run.setting run.content flags (entries_to run phase)) reads → (r : IsTableRead run.setting table reads)
    → IsShown (shown_row run.content (entries_to run phase)) (word_version (entries_to run phase)) (λ word. flags word (word_version (entries_to run phase) word)) (scope_of run.setting) table r.read.readings
read_shows run phase flags table reads each r = record {
  whole = subst (λ t. IsReadSet (scope_of run.setting) t r.read.readings) r.table_is is_read.whole;
  shown = All-weaker (λ reading. reading ≡ reading_of run.content flags (entries_to run phase) (target_of reading)) (λ reading. reading ≡ shows (shown_row run.content (entries_to run phase)) (word_version (entries_to run phase)) (λ word. flags word (word_version (entries_to run phase) word)) (target_of reading))
      (λ reading e. e ∙ same (target_of reading)) r.read.readings is_read.shown;
} where
  is_read : IsRead run.setting run.content flags (entries_to run phase) r.read
  is_read = All-contains (IsRead run.setting run.content flags (entries_to run phase)) reads r.read each r.among

  same : (t : Target) → reading_of run.content flags (entries_to run phase) t ≡ shows (shown_row run.content (entries_to run phase)) (word_version (entries_to run phase)) (λ word. flags word (word_version (entries_to run phase) word)) t
  same (Row row) = refl
  same (Word word) = refl

-- where no info hides it, a summary shows its rows in their order
pub rows_shown : (setting : Setting) (kind : TableKind) (which : SummaryTable) (found : List Reading) → list_any (is_hidden_by which) found ≡ false
    → summary_rows_of setting kind which found ≡ map (λ (row : RowKey × List RowValue). row.1) (ordered_rows setting kind which (infos_of found) (tally_of which (infos_of found) found))
unfolding summary_rows_of
rows_shown setting kind which found h = ap (λ b. if b then [] else map (λ (row : RowKey × List RowValue). row.1) (ordered_rows setting kind which (infos_of found) (tally_of which (infos_of found) found))) h
