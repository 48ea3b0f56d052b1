-- A report is told from its spelling.
use Rattle.std.proofs.Common.{◌≡◌, List, [], ◌∷◌, ◌++◌, map, append_assoc, sym, ap, ◌∙◌, refl}
use Rattle.std.specs.List.{All, flat_map, filter_map}
use Rattle.std.proofs.lemmas.List.Elements.{All-head, All-tail}
use Rattle.pfs_event.specs.declared.entry.Entry.{Entry}
use Rattle.pfs_event.specs.declared.entry.Entry.TheVariants as entry
use Rattle.pfs_text.specs.declared.values.RowValue.{RowValue}
use Rattle.pfs_journal.specs.declared.line.Line.{Line}
use Rattle.pfs_journal.specs.declared.line.Line.TheVariants as says
use Rattle.pfs_journal.specs.declared.values.TableReport.{TableReport}
use Rattle.pfs_journal.specs.declared.values.LostReport.{LostReport}
use Rattle.pfs_journal.specs.declared.blocks.BlockReport.{BlockReport}
use Rattle.pfs_journal.specs.declared.report.PhaseParts.{PhaseParts}
use Rattle.pfs_journal.specs.declared.report.ReportParts.{ReportParts}
use Rattle.pfs_journal.specs.OneSpelling.{IsReadAgain}
use Rattle.pfs_journal.specs.ReportLines.{row_lines, journal_lines, block_lines, table_lines, phase_lines, report_lines, FitsReport}
use Rattle.pfs_journal.specs.Reports.{IsBlock, IsPhase, IsReport, AreAnswered, rows_asked, sizes_of}
use Rattle.pfs_journal.specs.Spelling.{spelling}
use Rattle.pfs_journal.proofs.LineReports.{Parts, no_parts, results, add, collect, phase_group}
use Rattle.pfs_journal.proofs.FirstWrongLine.{same_lines}
use Rattle.pfs_journal.proofs.ReportRuns.{spelled}

abbrev Answer : Type 0
Answer = List (List RowValue)

-- parts where no answer and no table is open
abbrev open_parts : List Entry → List Answer → List BlockReport → List TableReport → List LostReport → List PhaseParts → Parts
open_parts entries answers blocks tables lost phases = record { rows = []; entries = entries; answers = answers; blocks = blocks; tables = tables; lost = lost; phases = phases; format = 1 }

abbrev with_rows : Answer → Parts → Parts
with_rows rows p = record p { rows = rows }

rows_back : (rows : Answer) (more : List Line) (p : Parts) → collect more ≡ with_rows [] p → collect (row_lines rows ++ more) ≡ with_rows rows p
rows_back [] more p e = e
rows_back (row ∷ rows) more p e = ap (add (says.Row row)) (rows_back rows more p e)

regroup : (a b c : List Line) → (a ++ b) ++ c ≡ a ++ (b ++ c)
regroup a b c = append_assoc a b c

tables_back : (tables : List TableReport) (more : List Line) (lost : List LostReport) (phases : List PhaseParts) → collect more ≡ results [] lost phases → collect (flat_map table_lines tables ++ more) ≡ results tables lost phases
tables_back [] more lost phases e = e
tables_back (table ∷ tables) more lost phases e =
    let rest = tables_back tables more lost phases e in
    ap (λ (ls : List Line). add (says.Table table.name) (collect ls)) (regroup (row_lines table.rows) (flat_map table_lines tables) more)
    ∙ ap (add (says.Table table.name)) (rows_back table.rows (flat_map table_lines tables ++ more) (results tables lost phases) rest)

lost_back : (lost : List LostReport) (more : List Line) (phases : List PhaseParts) → collect more ≡ no_parts phases → collect (map says.Lost lost ++ more) ≡ results [] lost phases
lost_back [] more phases e = e
lost_back (l ∷ lost) more phases e = ap (add (says.Lost l)) (lost_back lost more phases e)

journal_back : (entries : List Entry) (answers : List Answer) (more : List Line) (blocks : List BlockReport) (tables : List TableReport) (lost : List LostReport) (phases : List PhaseParts)
    → AreAnswered entries answers → collect more ≡ open_parts [] [] blocks tables lost phases → collect (journal_lines entries answers ++ more) ≡ open_parts entries answers blocks tables lost phases
journal_back [] [] more blocks tables lost phases fit e = e
journal_back [] (rows ∷ answers) more blocks tables lost phases fit e = absurd (cc)
journal_back (entry.Rows n ∷ entries) [] more blocks tables lost phases fit e = absurd (cc)
journal_back (entry.Rows n ∷ entries) (rows ∷ answers) more blocks tables lost phases fit e =
    let tail : sizes_of answers ≡ filter_map rows_asked entries = cc fit in
    let rest = journal_back entries answers more blocks tables lost phases tail e in
    ap (λ (ls : List Line). add (says.Entry (entry.Rows n)) (collect ls)) (regroup (row_lines rows) (journal_lines entries answers) more)
    ∙ ap (add (says.Entry (entry.Rows n))) (rows_back rows (journal_lines entries answers ++ more) (open_parts entries answers blocks tables lost phases) rest)
journal_back (x ∷ entries) answers more blocks tables lost phases fit e = ap (add (says.Entry x)) (journal_back entries answers more blocks tables lost phases fit e)

blocks_back : (blocks : List BlockReport) (more : List Line) (tables : List TableReport) (lost : List LostReport) (phases : List PhaseParts) → All IsBlock blocks
    → collect more ≡ results tables lost phases → collect (flat_map block_lines blocks ++ more) ≡ open_parts [] [] blocks tables lost phases
blocks_back [] more tables lost phases good e = e
blocks_back (block ∷ blocks) more tables lost phases good e =
    let journal = journal_lines block.entries block.answers in
    let rest = blocks_back blocks more tables lost phases (All-tail IsBlock block blocks good) e in
    ap (λ (ls : List Line). add (says.Session block.session) (collect ls)) (regroup journal (flat_map block_lines blocks) more)
    ∙ ap (add (says.Session block.session)) (journal_back block.entries block.answers (flat_map block_lines blocks ++ more) blocks tables lost phases (All-head IsBlock block blocks good).answered rest)

phases_back : (phases : List PhaseParts) → All IsPhase phases → collect (flat_map phase_lines phases ++ says.End ∷ []) ≡ no_parts phases
phases_back [] good = refl
phases_back (phase ∷ phases) good =
    let more = flat_map phase_lines phases ++ says.End ∷ [] in
    let rest = phases_back phases (All-tail IsPhase phase phases good) in
    let lost = lost_back phase.lost more phases rest in
    let tables = tables_back phase.tables (map says.Lost phase.lost ++ more) phase.lost phases lost in
    let blocks = blocks_back phase.blocks (says.Final ∷ (flat_map table_lines phase.tables ++ (map says.Lost phase.lost ++ more))) phase.tables phase.lost phases (All-head IsPhase phase phases good).blocks (ap (add says.Final) tables) in
    ap (λ (ls : List Line). add (says.Phase phase.number) (collect ls)) (sym (phase_group (flat_map block_lines phase.blocks) (flat_map table_lines phase.tables) (map says.Lost phase.lost) (flat_map phase_lines phases) (says.End ∷ [])))
    ∙ ap (add (says.Phase phase.number)) blocks

abbrev report_of : Parts → ReportParts
report_of p = record { format = p.format; phases = p.phases }

-- a report is told from its lines
report_back : (report : ReportParts) → IsReport report → report_of (collect (report_lines report)) ≡ report
report_back report good = ap (λ (p : Parts). report_of (add (says.Head report.format) p)) (phases_back report.phases good.phases)

-- no two reports are spelled alike
one_report : (a b : ReportParts) → IsReport a → IsReport b → FitsReport a → FitsReport b → spelling a ≡ spelling b → a ≡ b
one_report a b good_a good_b fits_a fits_b e =
    sym (report_back a good_a)
    ∙ (ap (λ (ls : List Line). report_of (collect ls)) (same_lines a b good_a good_b fits_a fits_b (sym (spelled a) ∙ (e ∙ spelled b)))
    ∙ report_back b good_b)

pub read_again : (report : ReportParts) → IsReport report → FitsReport report → IsReadAgain report
read_again report good fits = record {
  taken = λ at wrong. wrong.no_report report good fits refl;
  same = λ other good_other fits_other e. one_report other report good_other good fits_other fits e;
}
