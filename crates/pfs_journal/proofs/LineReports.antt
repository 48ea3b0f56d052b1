-- The report of lines that run from its first place to its last.
use Rattle.std.proofs.Common.{ℕ, zero, suc, ◌≡◌, ◌≢◌, List, [], ◌∷◌, ◌++◌, length, map, Option, Some, None, append_assoc, sym, ap, subst, ◌∙◌, refl, arith}
use Rattle.std.specs.Prelude.{if◌then◌else◌}
use Rattle.std.specs.List.{All, flat_map}
use Rattle.std.proofs.lemmas.List.Elements.{All-head, All-tail, All-nil, All-cons}
use Rattle.pfs_event.specs.declared.entry.Entry.{Entry}
use Rattle.pfs_event.specs.declared.entry.Entry.TheVariants as entry
use Rattle.pfs_text.specs.declared.values.RowValue.{RowValue}
use Rattle.pfs_journal.specs.declared.line.Line.{Line}
use Rattle.pfs_journal.specs.declared.line.Line.TheVariants as says
use Rattle.pfs_journal.specs.declared.values.TableReport.{TableReport}
use Rattle.pfs_journal.specs.declared.values.LostReport.{LostReport}
use Rattle.pfs_journal.specs.declared.blocks.BlockReport.{BlockReport}
use Rattle.pfs_journal.specs.declared.report.PhaseParts.{PhaseParts}
use Rattle.pfs_journal.specs.declared.report.ReportParts.{ReportParts}
use Rattle.pfs_journal.specs.SingleLines.{IsLine}
use Rattle.pfs_journal.specs.ReportPlaces.{Place, Start, Phases, Blocks, Journal, Results, Named, Rows, Counters, Ended, rows_due, step, run}
use Rattle.pfs_journal.specs.ReportLines.{row_lines, journal_lines, block_lines, table_lines, phase_lines, report_lines}
use Rattle.pfs_journal.specs.Reports.{IsRow, IsName, IsTable, IsLost, IsBlock, IsPhase, IsReport, AreAnswered, rows_asked, sizes_of}
use Rattle.pfs_journal.specs.Spelling.{is_answered}

-- the parts of a report that lines at its end make, where none is closed yet
pub record Parts : Type 0 where
  pub rows : List (List RowValue)
  pub entries : List Entry
  pub answers : List (List (List RowValue))
  pub blocks : List BlockReport
  pub tables : List TableReport
  pub lost : List LostReport
  pub phases : List PhaseParts
  pub format : ℕ

abbrev pub no_parts : List PhaseParts → Parts
no_parts phases = record { rows = []; entries = []; answers = []; blocks = []; tables = []; lost = []; phases = phases; format = 1 }

-- the tables and counters at a phase's end, and the phases behind it
abbrev pub results : List TableReport → List LostReport → List PhaseParts → Parts
results tables lost phases = record { rows = []; entries = []; answers = []; blocks = []; tables = tables; lost = lost; phases = phases; format = 1 }

-- a line in front of these parts
abbrev pub add : Line → Parts → Parts
add (says.Head format) p = record p { format = format }
add (says.Phase number) p = no_parts (record { number = number; blocks = p.blocks; tables = p.tables; lost = p.lost } ∷ p.phases)
add (says.Session number) p = record p { rows = []; entries = []; answers = []; blocks = record { session = number; entries = p.entries; answers = p.answers } ∷ p.blocks }
add (says.Entry e) p = record p { rows = []; entries = e ∷ p.entries; answers = if is_answered e then p.rows ∷ p.answers else p.answers }
add (says.Row row) p = record p { rows = row ∷ p.rows }
add says.Final p = results p.tables p.lost p.phases
add (says.Table name) p = results (record { name = name; rows = p.rows } ∷ p.tables) p.lost p.phases
add (says.Lost lost) p = results [] (lost ∷ p.lost) p.phases
add says.End p = no_parts []

abbrev pub collect : List Line → Parts
collect [] = no_parts []
collect (line ∷ lines) = add line (collect lines)

-- the lines of these parts from a place on
abbrev phases_left : Parts → List Line
phases_left p = flat_map phase_lines p.phases ++ says.End ∷ []

abbrev counters_left : Parts → List Line
counters_left p = map says.Lost p.lost ++ phases_left p

abbrev results_left : Parts → List Line
results_left p = flat_map table_lines p.tables ++ counters_left p

abbrev rows_left : Parts → List Line
rows_left p = row_lines p.rows ++ results_left p

abbrev blocks_left : Parts → List Line
blocks_left p = flat_map block_lines p.blocks ++ says.Final ∷ results_left p

abbrev journal_left : Parts → List Line
journal_left p = row_lines p.rows ++ (journal_lines p.entries p.answers ++ blocks_left p)

abbrev pub left : Place → Parts → List Line
left Start p = says.Head p.format ∷ phases_left p
left Phases p = phases_left p
left Blocks p = blocks_left p
left (Journal due) p = journal_left p
left Results p = results_left p
left Named p = rows_left p
left Rows p = rows_left p
left Counters p = counters_left p
left Ended p = []

-- the rows that are due there
abbrev pub Due : Place → Parts → Type 0
Due (Journal due) p = length p.rows ≡ due
Due Named p = p.rows ≢ []
Due _ p = Unit {0}

-- what holds of the place that is reached
abbrev pub Reached : Option Place → (Place → Type 0) → Type 0
Reached None Holds = ⊥
Reached (Some place) Holds = Holds place

no_rows : {X : Type 0} (xs : List X) → length xs ≡ 0 → xs ≡ []
no_rows [] e = refl
no_rows (x ∷ xs) e = absurd (omega (arith, e))

-- a line in front of the lines that are left
before : (line : Line) (lines more : List Line) → lines ≡ more → line ∷ lines ≡ line ∷ more
before line lines more e = ap (λ (z : List Line). line ∷ z) e

three : (r t c : List Line) → r ++ (t ++ c) ≡ (r ++ t) ++ c
three r t c = sym (append_assoc r t c)

pub phase_group : (b t l p e : List Line) → b ++ says.Final ∷ (t ++ (l ++ (p ++ e))) ≡ ((b ++ says.Final ∷ (t ++ l)) ++ p) ++ e
phase_group b t l p e =
    ap (λ (z : List Line). b ++ says.Final ∷ z) (three t l (p ++ e))
    ∙ (three b (says.Final ∷ (t ++ l)) (p ++ e)
    ∙ three (b ++ says.Final ∷ (t ++ l)) p e)

phase_left : (n : ℕ) (lines : List Line) (p : Parts) → lines ≡ blocks_left p → says.Phase n ∷ lines ≡ phases_left (add (says.Phase n) p)
phase_left n lines p e =
    before (says.Phase n) lines (((flat_map block_lines p.blocks ++ says.Final ∷ (flat_map table_lines p.tables ++ map says.Lost p.lost)) ++ flat_map phase_lines p.phases) ++ says.End ∷ [])
    (e ∙ phase_group (flat_map block_lines p.blocks) (flat_map table_lines p.tables) (map says.Lost p.lost) (flat_map phase_lines p.phases) (says.End ∷ []))

end_left : (lines : List Line) (p : Parts) → lines ≡ [] → says.End ∷ lines ≡ phases_left (add says.End p)
end_left lines p e = before says.End lines [] e

table_left : (name : List ℕ) (lines : List Line) (p : Parts) → lines ≡ rows_left p → says.Table name ∷ lines ≡ results_left (add (says.Table name) p)
table_left name lines p e =
    before (says.Table name) lines ((row_lines p.rows ++ flat_map table_lines p.tables) ++ counters_left p) (e ∙ three (row_lines p.rows) (flat_map table_lines p.tables) (counters_left p))

session_left : (n : ℕ) (lines : List Line) (p : Parts) → lines ≡ journal_left p → length p.rows ≡ 0 → says.Session n ∷ lines ≡ blocks_left (add (says.Session n) p)
session_left n lines p e none =
    before (says.Session n) lines ((journal_lines p.entries p.answers ++ flat_map block_lines p.blocks) ++ says.Final ∷ results_left p)
    (e ∙ (ap (λ (rows : List (List RowValue)). row_lines rows ++ (journal_lines p.entries p.answers ++ blocks_left p)) (no_rows p.rows none)
    ∙ three (journal_lines p.entries p.answers) (flat_map block_lines p.blocks) (says.Final ∷ results_left p)))

-- an entry and its answer in front of a journal
entry_left : (e : Entry) (lines : List Line) (p : Parts) → lines ≡ journal_left p → length p.rows ≡ rows_due (rows_asked e) → says.Entry e ∷ lines ≡ journal_left (add (says.Entry e) p)
entry_left (entry.Rows n) lines p same due =
    before (says.Entry (entry.Rows n)) lines ((row_lines p.rows ++ journal_lines p.entries p.answers) ++ blocks_left p) (same ∙ three (row_lines p.rows) (journal_lines p.entries p.answers) (blocks_left p))
entry_left e lines p same due =
    before (says.Entry e) lines (journal_lines p.entries p.answers ++ blocks_left p)
    (same ∙ ap (λ (rows : List (List RowValue)). row_lines rows ++ (journal_lines p.entries p.answers ++ blocks_left p)) (no_rows p.rows due))

add_left : (place : Place) (line : Line) (lines : List Line) (p : Parts) → Reached (step place line) (λ next. (lines ≡ left next p) × Due next p) → line ∷ lines ≡ left place (add line p)
add_left Start (says.Head format) lines p h = before (says.Head format) lines (phases_left p) h.0
add_left Phases (says.Phase n) lines p h = phase_left n lines p h.0
add_left Phases says.End lines p h = end_left lines p h.0
add_left Blocks (says.Session n) lines p h = session_left n lines p h.0 h.1
add_left Blocks says.Final lines p h = before says.Final lines (results_left p) h.0
add_left (Journal zero) (says.Entry e) lines p h = entry_left e lines p h.0 h.1
add_left (Journal zero) (says.Session n) lines p h = session_left n lines p h.0 h.1
add_left (Journal zero) says.Final lines p h = before says.Final lines (results_left p) h.0
add_left (Journal (suc n)) (says.Row row) lines p h = before (says.Row row) lines (journal_left p) h.0
add_left Results (says.Table name) lines p h = table_left name lines p h.0
add_left Results (says.Lost lost) lines p h = before (says.Lost lost) lines (counters_left p) h.0
add_left Results (says.Phase n) lines p h = phase_left n lines p h.0
add_left Results says.End lines p h = end_left lines p h.0
add_left Named (says.Row row) lines p h = before (says.Row row) lines (rows_left p) h.0
add_left Rows (says.Row row) lines p h = before (says.Row row) lines (rows_left p) h.0
add_left Rows (says.Table name) lines p h = table_left name lines p h.0
add_left Rows (says.Lost lost) lines p h = before (says.Lost lost) lines (counters_left p) h.0
add_left Rows (says.Phase n) lines p h = phase_left n lines p h.0
add_left Rows says.End lines p h = end_left lines p h.0
add_left Counters (says.Lost lost) lines p h = before (says.Lost lost) lines (counters_left p) h.0
add_left Counters (says.Phase n) lines p h = phase_left n lines p h.0
add_left Counters says.End lines p h = end_left lines p h.0
add_left place line lines p h = absurd h

-- a report can have these parts
pub record AreGood (p : Parts) : Type 0 where
  pub rows : All IsRow p.rows
  pub answers : All (All IsRow) p.answers
  pub answered : AreAnswered p.entries p.answers
  pub blocks : All IsBlock p.blocks
  pub tables : All IsTable p.tables
  pub lost : All IsLost p.lost
  pub phases : All IsPhase p.phases
  pub format : p.format ≡ 1

good_results : (tables : List TableReport) (lost : List LostReport) (phases : List PhaseParts) → All IsTable tables → All IsLost lost → All IsPhase phases → AreGood (results tables lost phases)
good_results tables lost phases t l p = record { rows = All-nil IsRow; answers = All-nil (All IsRow); answered = refl; blocks = All-nil IsBlock; tables = t; lost = l; phases = p; format = refl }

good_none : (phases : List PhaseParts) → All IsPhase phases → AreGood (no_parts phases)
good_none phases good = good_results [] [] phases (All-nil IsTable) (All-nil IsLost) good

good_entry : (e : Entry) (p : Parts) → AreGood p → length p.rows ≡ rows_due (rows_asked e) → AreGood (add (says.Entry e) p)
good_entry (entry.Rows n) p g due = record { rows = All-nil IsRow; answers = All-cons (All IsRow) p.rows p.answers g.rows g.answers; answered = ap (λ (k : ℕ). k ∷ sizes_of p.answers) due ∙ ap (λ (z : List ℕ). n ∷ z) g.answered; blocks = g.blocks; tables = g.tables; lost = g.lost; phases = g.phases; format = g.format }
good_entry e p g due = record { rows = All-nil IsRow; answers = g.answers; answered = g.answered; blocks = g.blocks; tables = g.tables; lost = g.lost; phases = g.phases; format = g.format }

good_phase : (n : ℕ) (p : Parts) → AreGood p → AreGood (add (says.Phase n) p)
good_phase n p g =
    good_none (record { number = n; blocks = p.blocks; tables = p.tables; lost = p.lost } ∷ p.phases)
    (All-cons IsPhase (record { number = n; blocks = p.blocks; tables = p.tables; lost = p.lost }) p.phases (record { blocks = g.blocks; tables = g.tables; lost = g.lost }) g.phases)

good_session : (n : ℕ) (p : Parts) → AreGood p → AreGood (add (says.Session n) p)
good_session n p g = record { rows = All-nil IsRow; answers = All-nil (All IsRow); answered = refl; blocks = All-cons IsBlock (record { session = n; entries = p.entries; answers = p.answers }) p.blocks (record { answered = g.answered; rows = g.answers }) g.blocks; tables = g.tables; lost = g.lost; phases = g.phases; format = g.format }

good_row : (row : List RowValue) (p : Parts) → AreGood p → IsRow row → AreGood (add (says.Row row) p)
good_row row p g good = record { rows = All-cons IsRow row p.rows good g.rows; answers = g.answers; answered = g.answered; blocks = g.blocks; tables = g.tables; lost = g.lost; phases = g.phases; format = g.format }

good_table : (name : List ℕ) (p : Parts) → AreGood p → IsName name → p.rows ≢ [] → AreGood (add (says.Table name) p)
good_table name p g good some =
    good_results (record { name = name; rows = p.rows } ∷ p.tables) p.lost p.phases
    (All-cons IsTable (record { name = name; rows = p.rows }) p.tables (record { name = good; some = some; rows = g.rows }) g.tables) g.lost g.phases

good_lost : (lost : LostReport) (p : Parts) → AreGood p → IsLost lost → AreGood (add (says.Lost lost) p)
good_lost lost p g good = good_results [] (lost ∷ p.lost) p.phases (All-nil IsTable) (All-cons IsLost lost p.lost good g.lost) g.phases

good_format : (format : ℕ) (p : Parts) → AreGood p → format ≡ 1 → AreGood (add (says.Head format) p)
good_format format p g good = record { rows = g.rows; answers = g.answers; answered = g.answered; blocks = g.blocks; tables = g.tables; lost = g.lost; phases = g.phases; format = good }

some_row : {X : Type 0} (x : X) (xs : List X) → x ∷ xs ≢ []
some_row x xs e = absurd (cc)

add_good : (place : Place) (line : Line) (p : Parts) → IsLine line → Reached (step place line) (λ next. AreGood p × Due next p) → AreGood (add line p) × Due place (add line p)
add_good Start (says.Head format) p good h = (good_format format p h.0 good, tt)
add_good Phases (says.Phase n) p good h = (good_phase n p h.0, tt)
add_good Phases says.End p good h = (good_none [] (All-nil IsPhase), tt)
add_good Blocks (says.Session n) p good h = (good_session n p h.0, tt)
add_good Blocks says.Final p good h = (good_results p.tables p.lost p.phases h.0.tables h.0.lost h.0.phases, tt)
add_good (Journal zero) (says.Entry e) p good h = (good_entry e p h.0 h.1, refl)
add_good (Journal zero) (says.Session n) p good h = (good_session n p h.0, refl)
add_good (Journal zero) says.Final p good h = (good_results p.tables p.lost p.phases h.0.tables h.0.lost h.0.phases, refl)
add_good (Journal (suc n)) (says.Row row) p good h = (good_row row p h.0 good, ap suc h.1)
add_good Results (says.Table name) p good h = (good_table name p h.0 good h.1, tt)
add_good Results (says.Lost lost) p good h = (good_lost lost p h.0 good, tt)
add_good Results (says.Phase n) p good h = (good_phase n p h.0, tt)
add_good Results says.End p good h = (good_none [] (All-nil IsPhase), tt)
add_good Named (says.Row row) p good h = (good_row row p h.0 good, some_row row p.rows)
add_good Rows (says.Row row) p good h = (good_row row p h.0 good, tt)
add_good Rows (says.Table name) p good h = (good_table name p h.0 good h.1, tt)
add_good Rows (says.Lost lost) p good h = (good_lost lost p h.0 good, tt)
add_good Rows (says.Phase n) p good h = (good_phase n p h.0, tt)
add_good Rows says.End p good h = (good_none [] (All-nil IsPhase), tt)
add_good Counters (says.Lost lost) p good h = (good_lost lost p h.0 good, tt)
add_good Counters (says.Phase n) p good h = (good_phase n p h.0, tt)
add_good Counters says.End p good h = (good_none [] (All-nil IsPhase), tt)
add_good place line p good h = absurd h

-- what lines from a place to the end make
record Makes (lines : List Line) (place : Place) : Type 0 where
  pub same : lines ≡ left place (collect lines)
  pub good : AreGood (collect lines)
  pub due : Due place (collect lines)

reached_map : (state : Option Place) (Told Holds : Place → Type 0) → ((place : Place) → Told place → Holds place) → Reached state Told → Reached state Holds
reached_map None Told Holds so h = h
reached_map (Some place) Told Holds so h = so place h

collected : (lines : List Line) (state : Option Place) → All IsLine lines → run state lines ≡ Some Ended → Reached state (Makes lines)
collected [] state good e = subst (λ (s : Option Place). Reached s (Makes [])) (sym e) (record { same = refl; good = good_none [] (All-nil IsPhase); due = tt })
collected (line ∷ lines) None good e = absurd (cc)
collected (line ∷ lines) (Some place) good e =
    let made = collected lines (step place line) (All-tail IsLine line lines good) e in
    let grown = add_good place line (collect lines) (All-head IsLine line lines good) (reached_map (step place line) (Makes lines) (λ next. AreGood (collect lines) × Due next (collect lines)) (λ next m. (m.good, m.due)) made) in
    record {
      same = add_left place line lines (collect lines) (reached_map (step place line) (Makes lines) (λ next. (lines ≡ left next (collect lines)) × Due next (collect lines)) (λ next m. (m.same, m.due)) made);
      good = grown.0;
      due = grown.1;
    }

-- lines that run from the first place to the last are those of a report
pub record IsOf (lines : List Line) : Type 0 where
  pub report : ReportParts
  pub good : IsReport report
  pub same : report_lines report ≡ lines

pub report_made : (lines : List Line) → All IsLine lines → run (Some Start) lines ≡ Some Ended → IsOf lines
report_made lines good e =
    let made = collected lines (Some Start) good e in
    record {
      report = record { format = (collect lines).format; phases = (collect lines).phases };
      good = record { format = made.good.format; phases = made.good.phases };
      same = sym made.same;
    }
