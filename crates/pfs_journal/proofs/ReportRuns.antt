-- A report's lines run from the first place to the last, and spell it.
use Rattle.std.proofs.Common.{ℕ, ◌≡◌, ◌≢◌, Bool, true, false, List, [], ◌∷◌, ◌++◌, length, map, drop, Some, append_assoc, sym, ap, subst, ◌∙◌, refl}
use Rattle.std.specs.Prelude.{codes, if◌then◌else◌}
use Rattle.std.specs.List.{All, flat_map, filter_map, slice_index_or}
use Rattle.std.proofs.lemmas.List.Concat.{flat_map-append}
use Rattle.std.proofs.lemmas.List.Elements.{All-head, All-tail, All-nil, All-cons, All-append, All-drop}
use Rattle.pfs_event.specs.declared.entry.Entry.{Entry}
use Rattle.pfs_event.specs.declared.entry.Entry.TheVariants as entry
use Rattle.pfs_text.specs.declared.values.RowValue.{RowValue}
use Rattle.pfs_journal.specs.declared.line.Line.{Line}
use Rattle.pfs_journal.specs.declared.line.Line.TheVariants as says
use Rattle.pfs_journal.specs.declared.values.TableReport.{TableReport}
use Rattle.pfs_journal.specs.declared.values.LostReport.{LostReport}
use Rattle.pfs_journal.specs.declared.blocks.BlockReport.{BlockReport}
use Rattle.pfs_journal.specs.declared.report.PhaseParts.{PhaseParts}
use Rattle.pfs_journal.specs.declared.report.ReportParts.{ReportParts}
use Rattle.pfs_journal.specs.SingleLines.{line_text, IsLine}
use Rattle.pfs_journal.specs.ReportPlaces.{Place, Start, Phases, Blocks, Journal, Results, Named, Rows, Counters, Ended, run}
use Rattle.pfs_journal.specs.ReportLines.{row_lines, answered_lines, journal_lines, block_lines, table_lines, phase_lines, report_lines}
use Rattle.pfs_journal.specs.Reports.{IsRow, IsTable, IsLost, IsBlock, IsPhase, IsReport, AreAnswered, rows_asked, sizes_of}
use Rattle.pfs_journal.proofs.LineReports.{phase_group}
use Rattle.pfs_journal.specs.Spelling.{row_text, entry_text, is_answered, answered_text, journal_text, session_line, block_text, table_line, table_text, lost_text, results_text, final_line, final_text, body_text, phase_line, phase_text, phases_text, first_line, spelling}

abbrev Answer : Type 0
Answer = List (List RowValue)

-- these lines run from a place to the end
abbrev Ends : Place → List Line → Type 0
Ends place lines = run (Some place) lines ≡ Some Ended

-- so they do wherever a phase, a counter or a table may end
record EndsPhase (lines : List Line) : Type 0 where
  phases : Ends Phases lines
  results : Ends Results lines
  rows : Ends Rows lines
  counters : Ends Counters lines

record EndsCounters (lines : List Line) : Type 0 where
  results : Ends Results lines
  rows : Ends Rows lines
  counters : Ends Counters lines

record EndsTables (lines : List Line) : Type 0 where
  results : Ends Results lines
  rows : Ends Rows lines

rows_run : (rows : Answer) (more : List Line) → Ends Rows more → Ends Rows (row_lines rows ++ more)
rows_run [] more e = e
rows_run (row ∷ rows) more e = rows_run rows more e

named_run : (rows : Answer) (more : List Line) → rows ≢ [] → Ends Rows more → Ends Named (row_lines rows ++ more)
named_run [] more some e = absurd (some refl)
named_run (row ∷ rows) more some e = rows_run rows more e

due_run : (rows : Answer) (more : List Line) → Ends (Journal 0) more → Ends (Journal (length rows)) (row_lines rows ++ more)
due_run [] more e = e
due_run (row ∷ rows) more e = due_run rows more e

along : (a b : List Line) (place : Place) → a ≡ b → Ends place b → Ends place a
along a b place same e = ap (run (Some place)) same ∙ e

regroup : (a b c : List Line) → (a ++ b) ++ c ≡ a ++ (b ++ c)
regroup a b c = append_assoc a b c

journal_run : (entries : List Entry) (answers : List Answer) (more : List Line) → AreAnswered entries answers → Ends (Journal 0) more → Ends (Journal 0) (journal_lines entries answers ++ more)
journal_run [] answers more fit e = e
journal_run (entry.Rows n ∷ entries) [] more fit e = absurd (cc)
journal_run (entry.Rows n ∷ entries) (rows ∷ answers) more fit e =
    let size : length rows ≡ n = cc fit in
    let tail : sizes_of answers ≡ filter_map rows_asked entries = cc fit in
    let rest = journal_run entries answers more tail e in
    let here = due_run rows (journal_lines entries answers ++ more) rest in
    along ((row_lines rows ++ journal_lines entries answers) ++ more) (row_lines rows ++ (journal_lines entries answers ++ more)) (Journal n) (regroup (row_lines rows) (journal_lines entries answers) more)
    (subst (λ (k : ℕ). Ends (Journal k) (row_lines rows ++ (journal_lines entries answers ++ more))) size here)
journal_run (x ∷ entries) answers more fit e = journal_run entries answers more fit e

-- lines that end wherever a block may end
record EndsBlock (lines : List Line) : Type 0 where
  blocks : Ends Blocks lines
  journal : Ends (Journal 0) lines

blocks_run : (blocks : List BlockReport) (more : List Line) → All IsBlock blocks → EndsBlock more → EndsBlock (flat_map block_lines blocks ++ more)
blocks_run [] more good e = e
blocks_run (block ∷ blocks) more good e =
    let rest = blocks_run blocks more (All-tail IsBlock block blocks good) e in
    let journal = journal_lines block.entries block.answers in
    let here = along ((journal ++ flat_map block_lines blocks) ++ more) (journal ++ (flat_map block_lines blocks ++ more)) (Journal 0) (regroup journal (flat_map block_lines blocks) more)
    (journal_run block.entries block.answers (flat_map block_lines blocks ++ more) (All-head IsBlock block blocks good).answered rest.journal) in
    record { blocks = here; journal = here }

lost_run : (lost : List LostReport) (more : List Line) → EndsCounters more → EndsCounters (map says.Lost lost ++ more)
lost_run [] more e = e
lost_run (l ∷ lost) more e = let rest = lost_run lost more e in record { results = rest.counters; rows = rest.counters; counters = rest.counters }

tables_run : (tables : List TableReport) (more : List Line) → All IsTable tables → EndsTables more → EndsTables (flat_map table_lines tables ++ more)
tables_run [] more good e = e
tables_run (table ∷ tables) more good e =
    let rest = tables_run tables more (All-tail IsTable table tables good) e in
    let here = along ((row_lines table.rows ++ flat_map table_lines tables) ++ more) (row_lines table.rows ++ (flat_map table_lines tables ++ more)) Named (regroup (row_lines table.rows) (flat_map table_lines tables) more)
    (named_run table.rows (flat_map table_lines tables ++ more) (All-head IsTable table tables good).some rest.rows) in
    record { results = here; rows = here }

phases_run : (phases : List PhaseParts) → All IsPhase phases → EndsPhase (flat_map phase_lines phases ++ says.End ∷ [])
phases_run [] good = record { phases = refl; results = refl; rows = refl; counters = refl }
phases_run (phase ∷ phases) good =
    let rest = phases_run phases (All-tail IsPhase phase phases good) in
    let first = All-head IsPhase phase phases good in
    let more = flat_map phase_lines phases ++ says.End ∷ [] in
    let counters = lost_run phase.lost more (record { results = rest.results; rows = rest.rows; counters = rest.counters }) in
    let tables = tables_run phase.tables (map says.Lost phase.lost ++ more) first.tables (record { results = counters.results; rows = counters.rows }) in
    let blocks = blocks_run phase.blocks (says.Final ∷ (flat_map table_lines phase.tables ++ (map says.Lost phase.lost ++ more))) first.blocks (record { blocks = tables.results; journal = tables.results }) in
    let here = ap (run (Some Blocks)) (sym (phase_group (flat_map block_lines phase.blocks) (flat_map table_lines phase.tables) (map says.Lost phase.lost) (flat_map phase_lines phases) (says.End ∷ []))) ∙ blocks.blocks in
    record { phases = here; results = here; rows = here; counters = here }

-- a report's lines run from the first place to the last
pub report_run : (report : ReportParts) → IsReport report → run (Some Start) (report_lines report) ≡ Some Ended
report_run report good = (phases_run report.phases good.phases).phases

abbrev pub texts : List Line → List ℕ
texts lines = flat_map line_text lines

pub texts_append : (a b : List Line) → texts (a ++ b) ≡ texts a ++ texts b
texts_append a b = flat_map-append line_text a b

flat_texts : {X : Type 0} (text : X → List ℕ) (lines : X → List Line) → ((x : X) → text x ≡ texts (lines x)) → (xs : List X) → flat_map text xs ≡ texts (flat_map lines xs)
flat_texts text lines same [] = refl
flat_texts text lines same (x ∷ xs) =
    ap (λ (z : List ℕ). z ++ flat_map text xs) (same x)
    ∙ (ap (λ (z : List ℕ). texts (lines x) ++ z) (flat_texts text lines same xs)
    ∙ sym (texts_append (lines x) (flat_map lines xs)))

rows_texts : (rows : Answer) → flat_map row_text rows ≡ texts (row_lines rows)
unfolding line_text
rows_texts [] = refl
rows_texts (row ∷ rows) = ap (λ (z : List ℕ). row_text row ++ z) (rows_texts rows)

lost_texts : (lost : List LostReport) → flat_map lost_text lost ≡ texts (map says.Lost lost)
unfolding line_text
lost_texts [] = refl
lost_texts (l ∷ lost) = ap (λ (z : List ℕ). lost_text l ++ z) (lost_texts lost)

table_texts : (table : TableReport) → table_text table ≡ texts (table_lines table)
unfolding line_text table_text
table_texts table = ap (λ (z : List ℕ). table_line table.name ++ z) (rows_texts table.rows)

answer_texts : (b : Bool) (rows : Answer) → (if b then flat_map row_text rows else []) ≡ texts (if b then row_lines rows else [])
answer_texts true rows = rows_texts rows
answer_texts false rows = refl

answered_texts : (e : Entry) (answers : List Answer) → answered_text e answers ≡ texts (answered_lines e answers)
unfolding line_text answered_text
answered_texts e answers = ap (λ (z : List ℕ). entry_text e ++ z) (answer_texts (is_answered e) (slice_index_or answers 0 []))

journal_texts : (entries : List Entry) (answers : List Answer) → journal_text entries answers ≡ texts (journal_lines entries answers)
unfolding journal_text
journal_texts [] answers = refl
journal_texts (e ∷ entries) answers =
    let rest = if is_answered e then drop 1 answers else answers in
    ap (λ (z : List ℕ). z ++ journal_text entries rest) (answered_texts e answers)
    ∙ (ap (λ (z : List ℕ). texts (answered_lines e answers) ++ z) (journal_texts entries rest)
    ∙ sym (texts_append (answered_lines e answers) (journal_lines entries rest)))

block_texts : (block : BlockReport) → block_text block ≡ texts (block_lines block)
unfolding line_text block_text
block_texts block = ap (λ (z : List ℕ). session_line block.session ++ z) (journal_texts block.entries block.answers)

results_texts : (tables : List TableReport) (lost : List LostReport) → results_text tables lost ≡ texts (flat_map table_lines tables ++ map says.Lost lost)
unfolding results_text
results_texts tables lost =
    ap (λ (z : List ℕ). z ++ flat_map lost_text lost) (flat_texts table_text table_lines table_texts tables)
    ∙ (ap (λ (z : List ℕ). texts (flat_map table_lines tables) ++ z) (lost_texts lost)
    ∙ sym (texts_append (flat_map table_lines tables) (map says.Lost lost)))

final_texts : (tables : List TableReport) (lost : List LostReport) → final_text tables lost ≡ texts (says.Final ∷ (flat_map table_lines tables ++ map says.Lost lost))
unfolding line_text final_text
final_texts tables lost = ap (λ (z : List ℕ). final_line ++ z) (results_texts tables lost)

phase_texts : (phase : PhaseParts) → phase_text phase ≡ texts (phase_lines phase)
unfolding line_text phase_text body_text
phase_texts phase = ap (λ (z : List ℕ). phase_line phase.number ++ z)
    (ap (λ (z : List ℕ). z ++ final_text phase.tables phase.lost) (flat_texts block_text block_lines block_texts phase.blocks)
    ∙ (ap (λ (z : List ℕ). texts (flat_map block_lines phase.blocks) ++ z) (final_texts phase.tables phase.lost)
    ∙ sym (texts_append (flat_map block_lines phase.blocks) (says.Final ∷ (flat_map table_lines phase.tables ++ map says.Lost phase.lost)))))

-- a report is spelled by its lines
pub spelled : (report : ReportParts) → spelling report ≡ texts (report_lines report)
unfolding line_text spelling phases_text
spelled report = ap (λ (z : List ℕ). first_line report.format ++ z)
    (ap (λ (z : List ℕ). z ++ codes "end\n") (flat_texts phase_text phase_lines phase_texts report.phases)
    ∙ sym (texts_append (flat_map phase_lines report.phases) (says.End ∷ [])))

can_line : (line : Line) (lines : List Line) → IsLine line → All IsLine lines → All IsLine (line ∷ lines)
can_line line lines good more = All-cons IsLine line lines good more

can_flat : {X : Type 0} (lines : X → List Line) (IsGood : X → Type 0) → ((x : X) → IsGood x → All IsLine (lines x)) → (xs : List X) → All IsGood xs → All IsLine (flat_map lines xs)
can_flat lines IsGood can [] good = All-nil IsLine
can_flat lines IsGood can (x ∷ xs) good = All-append IsLine (lines x) (flat_map lines xs) (can x (All-head IsGood x xs good)) (can_flat lines IsGood can xs (All-tail IsGood x xs good))

can_rows : (rows : Answer) → All IsRow rows → All IsLine (row_lines rows)
can_rows [] good = All-nil IsLine
can_rows (row ∷ rows) good = can_line (says.Row row) (row_lines rows) (All-head IsRow row rows good) (can_rows rows (All-tail IsRow row rows good))

can_lost : (lost : List LostReport) → All IsLost lost → All IsLine (map says.Lost lost)
can_lost [] good = All-nil IsLine
can_lost (l ∷ lost) good = can_line (says.Lost l) (map says.Lost lost) (All-head IsLost l lost good) (can_lost lost (All-tail IsLost l lost good))

can_table : (table : TableReport) → IsTable table → All IsLine (table_lines table)
can_table table good = can_line (says.Table table.name) (row_lines table.rows) good.name (can_rows table.rows good.rows)

first_answer : (answers : List Answer) → All (All IsRow) answers → All IsRow (slice_index_or answers 0 [])
first_answer [] good = All-nil IsRow
first_answer (rows ∷ answers) good = All-head (All IsRow) rows answers good

can_answer : (b : Bool) (rows : Answer) → All IsRow rows → All IsLine (if b then row_lines rows else [])
can_answer true rows good = can_rows rows good
can_answer false rows good = All-nil IsLine

rest_answers : (b : Bool) (answers : List Answer) → All (All IsRow) answers → All (All IsRow) (if b then drop 1 answers else answers)
rest_answers true answers good = All-drop (All IsRow) 1 answers good
rest_answers false answers good = good

can_journal : (entries : List Entry) (answers : List Answer) → All (All IsRow) answers → All IsLine (journal_lines entries answers)
can_journal [] answers good = All-nil IsLine
can_journal (e ∷ entries) answers good =
    let rest = if is_answered e then drop 1 answers else answers in
    All-append IsLine (answered_lines e answers) (journal_lines entries rest)
    (can_line (says.Entry e) (if is_answered e then row_lines (slice_index_or answers 0 []) else []) tt (can_answer (is_answered e) (slice_index_or answers 0 []) (first_answer answers good)))
    (can_journal entries rest (rest_answers (is_answered e) answers good))

can_block : (block : BlockReport) → IsBlock block → All IsLine (block_lines block)
can_block block good = can_line (says.Session block.session) (journal_lines block.entries block.answers) tt (can_journal block.entries block.answers good.rows)

can_phase : (phase : PhaseParts) → IsPhase phase → All IsLine (phase_lines phase)
can_phase phase good =
    let results = flat_map table_lines phase.tables ++ map says.Lost phase.lost in
    can_line (says.Phase phase.number) (flat_map block_lines phase.blocks ++ says.Final ∷ results) tt
    (All-append IsLine (flat_map block_lines phase.blocks) (says.Final ∷ results) (can_flat block_lines IsBlock can_block phase.blocks good.blocks)
    (can_line says.Final results tt
    (All-append IsLine (flat_map table_lines phase.tables) (map says.Lost phase.lost) (can_flat table_lines IsTable can_table phase.tables good.tables) (can_lost phase.lost good.lost))))

-- a report can have its lines
pub report_can : (report : ReportParts) → IsReport report → All IsLine (report_lines report)
report_can report good =
    can_line (says.Head report.format) (flat_map phase_lines report.phases ++ says.End ∷ []) good.format
    (All-append IsLine (flat_map phase_lines report.phases) (says.End ∷ []) (can_flat phase_lines IsPhase can_phase report.phases good.phases) (can_line says.End [] tt (All-nil IsLine)))
