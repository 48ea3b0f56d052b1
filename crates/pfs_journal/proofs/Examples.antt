-- Spellings of single lines and of a small report, and values that no report has.
use Rattle.std.proofs.Common.{ℕ, ◌≡◌, true, [], ◌∷◌, Some, None, refl, arith}
use Rattle.std.specs.Prelude.{codes}
use Rattle.std.specs.Fmt.{digits}
use Rattle.std.proofs.lemmas.Bool.{false≢true}
use Rattle.std.proofs.lemmas.List.Elements.{All-head}
use Rattle.pfs_event.specs.declared.entry.Entry.TheVariants as entry
use Rattle.pfs_event.specs.declared.verdict.Verdict.TheVariants.{Attributed}
use Rattle.pfs_text.specs.declared.values.RowValue.TheVariants as value
use Rattle.pfs_journal.specs.FirstWrongLine.{whole_lines, first_lines}
use Rattle.pfs_journal.specs.Reports.{is_text_byte, IsText, AreAnswered}
use Rattle.pfs_journal.specs.Spelling.{field_text, numbers_text, entry_text, value_text, row_text, answered_text, journal_text, session_line, block_text, results_text, final_line, final_text, body_text, phase_line, phase_text, phases_text, first_line, spelling}

-- a start, with a version that wasn't loaded
start_line : entry_text (entry.Start (Some 1) Attributed (Some 0) (Some 12) (Some 0) None) ≡ codes "start 1 attributed 0 12 0 -\n"
unfolding numbers_text field_text digits
start_line = refl

-- a row with a value of each kind
row_line : row_text (value.Null ∷ value.Number 7 ∷ value.Text (codes "a'b") ∷ []) ≡ codes "row NULL 7 'a''b'\n"
unfolding row_text value_text field_text digits
row_line = refl

-- a report with one answer
answered_report : spelling (record { format = 1; phases = record { number = 1; blocks = record { session = 3; entries = entry.Query ∷ entry.Rows 1 ∷ []; answers = ((value.Number 5 ∷ []) ∷ []) ∷ [] } ∷ []; tables = []; lost = [] } ∷ [] })
    ≡ codes "pfs-report 1\nphase 1\nsession 3\nquery\nrows 1\nrow 5\nfinal\nend\n"
unfolding spelling first_line phases_text phase_text phase_line body_text block_text session_line journal_text answered_text row_text value_text final_text final_line results_text numbers_text field_text digits
answered_report = refl

same_head : (a b : ℕ) → a ∷ [] ≡ b ∷ [] → a ≡ b
same_head a b e = cc

-- two rows behind `rows 3` are too few
rows_too_few : ¬ AreAnswered (entry.Rows 3 ∷ []) (([] ∷ [] ∷ []) ∷ [])
rows_too_few same = omega (arith, same_head 2 3 same)

-- the byte 127 is in no text
no_delete : ¬ IsText (127 ∷ [])
no_delete all = false≢true (All-head (λ b. is_text_byte b ≡ true) 127 [] all)

-- a last line without its end isn't whole
one_whole : whole_lines (codes "pfs-report 1\nend") ≡ 1
one_whole = refl

whole_front : first_lines 1 (codes "pfs-report 1\nend") ≡ codes "pfs-report 1\n"
whole_front = refl
