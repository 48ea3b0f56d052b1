-- The line of a misfit.
use Rattle.std.proofs.Common.{◌≡◌, ℕ, ◌+◌, ◌≤◌, List, length, take, drop, ap, arith}
use Rattle.std.proofs.lemmas.List.{length-drop}
use Rattle.pfs_event.specs.declared.entry.Entry.{Entry}
use Rattle.pfs_text.specs.declared.values.RowValue.{RowValue}
use Rattle.pfs_journal.specs.ReportLines.{journal_lines}
use Rattle.pfs_journal.specs.declared.blocks.BlockReport.{BlockReport}
use Rattle.pfs_model.specs.Cuts.{front}
use Rattle.pfs_check_faults.specs.ShapeFaults.{line_of_rest}

-- the entries before those from a place on
front_of_drop : (es : List Entry) (place : ℕ) → place ≤ length es → front es (drop place es) ≡ take place es
front_of_drop es place h = ap (λ n. take n es) (omega (arith, length-drop place es))

-- the line of a misfit at a place
pub misfit_line : (line first at place : ℕ) (report : BlockReport) (answers : List (List (List RowValue))) → answers ≡ report.answers → place ≤ length report.entries → first ≡ line + 1 → at ≡ first + length (journal_lines (take place report.entries) answers) → at ≡ line_of_rest line report (drop place report.entries)
misfit_line line first at place report answers s h f a =
    let own = ap (λ (z : List (List (List RowValue))). length (journal_lines (take place report.entries) z)) s in
    let same = ap (λ (z : List Entry). length (journal_lines z report.answers)) (front_of_drop report.entries place h) in
    omega (arith, a, f, own, same)
