-- The lines of the entries of a report.
use Rattle.std.proofs.Common.{◌≡◌, refl, ℕ, ◌+◌, Bool, true, false, List, [], ◌∷◌, ◌++◌, length, map, drop, sym, ◌∙◌, ap, arith}
use Rattle.std.specs.Prelude.{if◌then◌else◌}
use Rattle.std.specs.List.{flat_map, slice_index_or}
use Rattle.std.proofs.lemmas.List.{append-nil, length-map, map-append}
use Rattle.pfs_event.specs.declared.entry.Entry.{Entry}
use Rattle.pfs_journal.specs.ReportLines.{block_lines, journal_lines, phase_lines, row_lines}
use Rattle.pfs_journal.specs.Spelling.{is_answered}
use Rattle.pfs_journal.specs.declared.blocks.BlockReport.{BlockReport}
use Rattle.pfs_journal.specs.declared.line.Line.TheVariants as says
use Rattle.pfs_journal.specs.declared.report.PhaseParts.{PhaseParts}
use Rattle.pfs_journal.specs.declared.report.ReportParts.{ReportParts}
use Rattle.pfs_text.specs.declared.values.RowValue.{RowValue}
use Rattle.pfs_check_faults.specs.ReportCases.{entry_lines, is_entry_line, numbers_where}
use Rattle.pfs_check_line_numbers.proofs.EntryNumbers.{no_result, no_row, where_append}
use Rattle.pfs_check_line_numbers.specs.LineCounts.{result_lines}
use Rattle.pfs_check_versions.specs.PrintedEntries.{Printed, answers_behind, printed_blocks, printed_entries, printed_in, printed_phases, rows_behind}

abbrev pub line_of : Printed → ℕ
line_of printed = printed.line

journal_numbers : (n phase session : ℕ) (es : List Entry) (answers : List (List (List RowValue)))
    → numbers_where is_entry_line n (journal_lines es answers) ≡ map line_of (printed_entries n phase session es answers)
journal_numbers n phase session [] answers = refl
journal_numbers n phase session (e ∷ es) answers =
    ap (λ z. n ∷ z) (at (is_answered e) (λ m left. journal_numbers m phase session es left)) where
      at : (b : Bool) → ((m : ℕ) (left : List (List (List RowValue)))
          → numbers_where is_entry_line m (journal_lines es left) ≡ map line_of (printed_entries m phase session es left))
          → numbers_where is_entry_line (n + 1) ((if b then row_lines (slice_index_or answers 0 []) else []) ++ journal_lines es (if b then drop 1 answers else answers))
          ≡ map line_of (printed_entries (n + 1 + (if b then length (slice_index_or answers 0 []) else 0)) phase session es (if b then drop 1 answers else answers))
      at true go =
          where_append is_entry_line (n + 1) (row_lines (slice_index_or answers 0 [])) (journal_lines es (drop 1 answers))
          ∙ ap (λ z. z ++ numbers_where is_entry_line ((n + 1) + length (row_lines (slice_index_or answers 0 []))) (journal_lines es (drop 1 answers)))
          (no_row (n + 1) (slice_index_or answers 0 []))
          ∙ ap (λ z. numbers_where is_entry_line ((n + 1) + z) (journal_lines es (drop 1 answers))) (length-map (slice_index_or answers 0 []) says.Row)
          ∙ go (n + 1 + length (slice_index_or answers 0 [])) (drop 1 answers)
      at false go =
          let more : n + 1 ≡ (n + 1) + 0 = omega arith in
          ap (λ z. numbers_where is_entry_line z (journal_lines es answers)) more ∙ go (n + 1 + 0) answers

blocks_numbers : (n phase : ℕ) (bs : List BlockReport)
    → numbers_where is_entry_line n (flat_map block_lines bs) ≡ map line_of (printed_blocks n phase bs)
blocks_numbers n phase [] = refl
blocks_numbers n phase (b ∷ bs) =
    where_append is_entry_line n (block_lines b) (flat_map block_lines bs)
    ∙ ap (λ z. z ++ numbers_where is_entry_line (n + length (block_lines b)) (flat_map block_lines bs))
    (journal_numbers (n + 1) phase b.session b.entries b.answers)
    ∙ ap (λ z. map line_of (printed_entries (n + 1) phase b.session b.entries b.answers) ++ z) (blocks_numbers (n + length (block_lines b)) phase bs)
    ∙ sym (map-append line_of (printed_entries (n + 1) phase b.session b.entries b.answers) (printed_blocks (n + length (block_lines b)) phase bs))

phase_numbers : (n number : ℕ) (phase : PhaseParts)
    → numbers_where is_entry_line n (phase_lines phase) ≡ map line_of (printed_blocks (n + 1) number phase.blocks)
phase_numbers n number phase =
    where_append is_entry_line (n + 1) (flat_map block_lines phase.blocks) (result_lines phase)
    ∙ ap (λ z. numbers_where is_entry_line (n + 1) (flat_map block_lines phase.blocks) ++ z)
    (no_result ((n + 1) + length (flat_map block_lines phase.blocks)) phase)
    ∙ append-nil (numbers_where is_entry_line (n + 1) (flat_map block_lines phase.blocks))
    ∙ blocks_numbers (n + 1) number phase.blocks

phases_numbers : (n number : ℕ) (ps : List PhaseParts)
    → numbers_where is_entry_line n (flat_map phase_lines ps) ≡ map line_of (printed_phases n number ps)
phases_numbers n number [] = refl
phases_numbers n number (p ∷ ps) =
    where_append is_entry_line n (phase_lines p) (flat_map phase_lines ps)
    ∙ ap (λ z. z ++ numbers_where is_entry_line (n + length (phase_lines p)) (flat_map phase_lines ps)) (phase_numbers n number p)
    ∙ ap (λ z. map line_of (printed_blocks (n + 1) number p.blocks) ++ z) (phases_numbers (n + length (phase_lines p)) (number + 1) ps)
    ∙ sym (map-append line_of (printed_blocks (n + 1) number p.blocks) (printed_phases (n + length (phase_lines p)) (number + 1) ps))

-- the lines of the printed entries are those of the report's entries
pub printed_lines : (report : ReportParts) → entry_lines report ≡ map line_of (printed_in report)
printed_lines report =
    where_append is_entry_line 2 (flat_map phase_lines report.phases) (says.End ∷ [])
    ∙ append-nil (numbers_where is_entry_line 2 (flat_map phase_lines report.phases))
    ∙ phases_numbers 2 1 report.phases
