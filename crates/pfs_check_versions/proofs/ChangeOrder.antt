-- The phases of the changes of a report never fall.
use Rattle.std.proofs.Common.{◌≡◌, ℕ, zero, suc, ◌+◌, ◌<◌, ◌≤◌, List, [], ◌∷◌, ◌++◌, length, map, drop, sym, ◌∙◌, ap, subst, arith, append_assoc}
use Rattle.std.proofs.lemmas.List.Concat.{flat_map-append}
use Rattle.std.proofs.lemmas.List.{append-nil}
use Rattle.pfs_event.specs.declared.entry.Entry.{Entry}
use Rattle.pfs_journal.specs.ReportLines.{block_lines, phase_lines}
use Rattle.pfs_journal.specs.declared.blocks.BlockReport.{BlockReport}
use Rattle.pfs_journal.specs.declared.report.PhaseParts.{PhaseParts}
use Rattle.pfs_text.specs.declared.values.RowValue.{RowValue}
use Rattle.pfs_model.specs.declared.changes.Change.{Change}
use Rattle.pfs_model.specs.Chains.{Each}
use Rattle.pfs_check_versions.specs.declared.changes.PlacedChange.{PlacedChange}
use Rattle.pfs_check_versions.specs.LinkTests.{IsBehind}
use Rattle.pfs_check_versions.specs.PlacedChanges.{AreInOrder, changes_at, changes_of, placed_at}
use Rattle.pfs_check_versions.specs.PrintedEntries.{Printed, answers_behind, printed_blocks, printed_entries, printed_in, printed_phases, rows_behind}

pub order_low : (low high : ℕ) (cs : List PlacedChange) → low ≤ high → AreInOrder high cs → AreInOrder low cs
order_low low high [] h o = tt
order_low low high (c ∷ cs) h o = let first : high ≤ c.phase = o.0 in (omega (arith, h, first), o.1)

pub order_drop : (n low : ℕ) (cs : List PlacedChange) → AreInOrder low cs → AreInOrder 0 (drop n cs)
order_drop zero low cs o = order_low 0 low cs (omega arith) o
order_drop (suc n) low [] o = tt
order_drop (suc n) low (c ∷ cs) o = order_drop n c.phase cs o.1

-- behind a phase all are
pub order_behind : (phase low : ℕ) (cs : List PlacedChange) → phase < low → AreInOrder low cs → Each (IsBehind phase) cs
order_behind phase low [] h o = tt
order_behind phase low (c ∷ cs) h o =
    let first : low ≤ c.phase = o.0 in
    (omega (arith, h, first), order_behind phase c.phase cs (omega (arith, h, first)) o.1)

entry_order : (t : Printed) (cs : List Change) (rest : List PlacedChange) → AreInOrder t.phase rest → AreInOrder t.phase (map (placed_at t) cs ++ rest)
entry_order t [] rest o = o
entry_order t (c ∷ cs) rest o = (omega arith, entry_order t cs rest o)

journal_order : (given : Entry → List Change) (line phase session : ℕ) (es : List Entry) (answers : List (List (List RowValue))) (rest : List PlacedChange)
    → AreInOrder phase rest → AreInOrder phase (changes_of given (printed_entries line phase session es answers) ++ rest)
journal_order given line phase session [] answers rest o = o
journal_order given line phase session (e ∷ es) answers rest o =
    let one : Printed = record { line = line; phase = phase; session = session; entry = e } in
    let more : List Printed = printed_entries (line + 1 + rows_behind e answers) phase session es (answers_behind e answers) in
    subst (AreInOrder phase) (sym (append_assoc (changes_at given one) (changes_of given more) rest))
    (entry_order one (given e) (changes_of given more ++ rest)
    (journal_order given (line + 1 + rows_behind e answers) phase session es (answers_behind e answers) rest o))

blocks_order : (given : Entry → List Change) (line phase : ℕ) (bs : List BlockReport) (rest : List PlacedChange)
    → AreInOrder phase rest → AreInOrder phase (changes_of given (printed_blocks line phase bs) ++ rest)
blocks_order given line phase [] rest o = o
blocks_order given line phase (b ∷ bs) rest o =
    let own : List Printed = printed_entries (line + 1) phase b.session b.entries b.answers in
    let more : List Printed = printed_blocks (line + length (block_lines b)) phase bs in
    subst (AreInOrder phase) (sym (ap (λ z. z ++ rest) (flat_map-append (changes_at given) own more)
    ∙ append_assoc (changes_of given own) (changes_of given more) rest))
    (journal_order given (line + 1) phase b.session b.entries b.answers (changes_of given more ++ rest)
    (blocks_order given (line + length (block_lines b)) phase bs rest o))

pub phases_order : (given : Entry → List Change) (line number : ℕ) (ps : List PhaseParts) → AreInOrder number (changes_of given (printed_phases line number ps))
phases_order given line number [] = tt
phases_order given line number (p ∷ ps) =
    let own : List Printed = printed_blocks (line + 1) number p.blocks in
    let more : List Printed = printed_phases (line + length (phase_lines p)) (number + 1) ps in
    subst (AreInOrder number) (sym (flat_map-append (changes_at given) own more))
    (blocks_order given (line + 1) number p.blocks (changes_of given more)
    (order_low number (number + 1) (changes_of given more) (omega arith) (phases_order given (line + length (phase_lines p)) (number + 1) ps)))
