-- The entries of the blocks of a report are those that it prints.
use Rattle.std.proofs.Common.{◌≡◌, refl, ℕ, ◌+◌, ◌≤◌, List, [], ◌∷◌, ◌++◌, length, sym, ◌∙◌, subst, arith, append_assoc}
use Rattle.std.proofs.lemmas.List.{append-nil}
use Rattle.pfs_event.specs.declared.entry.Entry.{Entry}
use Rattle.pfs_journal.specs.ReportLines.{block_lines, phase_lines}
use Rattle.pfs_journal.specs.declared.blocks.BlockReport.{BlockReport}
use Rattle.pfs_journal.specs.declared.report.PhaseParts.{PhaseParts}
use Rattle.pfs_journal.specs.declared.report.ReportParts.{ReportParts}
use Rattle.pfs_text.specs.declared.values.RowValue.{RowValue}
use Rattle.pfs_model.specs.declared.lines.Line.{Line}
use Rattle.pfs_model.specs.Contexts.{Context, after, fresh, noted, subject_of, turned}
use Rattle.pfs_model.specs.EntryPlaces.{AreShapedBehind, Block, Placed, placed_lines, placed_part, places, places_behind, told_by}
use Rattle.pfs_model.specs.JournalCuts.{AreShaped, joined}
use Rattle.pfs_runs.specs.Runs.{AreBlocksOf, ArePhasesOf, IsBlockOf, all_blocks}
use Rattle.pfs_script.specs.declared.blocks.Block.{Block as Said}
use Rattle.pfs_script.specs.declared.blocks.Phase.{Phase}
use Rattle.pfs_check_faults.specs.ShapeFaults.{IsCut}
use Rattle.pfs_check_versions.specs.PrintedEntries.{Printed, answers_behind, printed_blocks, printed_entries, printed_in, printed_phases, rows_behind}

pub record IsPrinted (place : Placed) (printed : Printed) : Type 0 where
  pub phase : place.phase ≡ printed.phase
  pub session : place.session ≡ printed.session
  pub entry : place.entry ≡ printed.entry

-- one by one
abbrev pub ArePrinted : List Placed → List Printed → Type 0
ArePrinted [] [] = Unit {0}
ArePrinted [] (one ∷ others) = ⊥
ArePrinted (place ∷ places) [] = ⊥
ArePrinted (place ∷ places) (one ∷ others) = IsPrinted place one × ArePrinted places others

printed_join : (ps qs : List Placed) (ts us : List Printed) → ArePrinted ps ts → ArePrinted qs us → ArePrinted (ps ++ qs) (ts ++ us)
printed_join [] qs [] us a b = b
printed_join [] qs (t ∷ ts) us a b = absurd a
printed_join (p ∷ ps) qs [] us a b = absurd a
printed_join (p ∷ ps) qs (t ∷ ts) us a b = (a.0, printed_join ps qs ts us a.1 b)

-- a line's entries, and those behind them
part_printed : (phase session : ℕ) (line : Line) (context : Context) (es rest : List Entry) (behind : List Placed)
    → ((n : ℕ) (answers : List (List (List RowValue))) → ArePrinted behind (printed_entries n phase session rest answers))
    → (n : ℕ) (answers : List (List (List RowValue)))
    → ArePrinted (placed_part phase session line context es ++ behind) (printed_entries n phase session (es ++ rest) answers)
part_printed phase session line context [] rest behind go n answers = go n answers
part_printed phase session line context (e ∷ es) rest behind go n answers = (
  record { phase = refl; session = refl; entry = refl },
  part_printed phase session line (noted (subject_of line) context e) es rest behind go (n + 1 + rows_behind e answers) (answers_behind e answers),
)

lines_printed : (phase session : ℕ) (context : Context) (lines : List Line) (parts : List (List Entry)) → AreShaped context lines parts
    → (n : ℕ) (answers : List (List (List RowValue)))
    → ArePrinted (placed_lines phase session context lines parts) (printed_entries n phase session (joined parts) answers)
unfolding joined
lines_printed phase session context [] [] shaped n answers = tt
lines_printed phase session context [] (part ∷ parts) shaped n answers = absurd shaped
lines_printed phase session context (line ∷ lines) [] shaped n answers = absurd shaped
lines_printed phase session context (line ∷ lines) (part ∷ parts) shaped n answers =
    part_printed phase session line (turned context) part (joined parts) (placed_lines phase session (after context line part) lines parts)
    (lines_printed phase session (after context line part) lines parts shaped.1) n answers

block_printed : (phase : ℕ) (said : Said) (report : BlockReport) (block : Block) (context : Context) → IsBlockOf phase said report block
    → AreShaped context block.lines block.parts → (n : ℕ)
    → ArePrinted (placed_lines block.phase block.session context block.lines block.parts) (printed_entries n phase report.session report.entries report.answers)
block_printed phase said report block context is shaped n =
    let mine : List Placed = placed_lines block.phase block.session context block.lines block.parts in
    subst (λ z. ArePrinted mine (printed_entries n z report.session report.entries report.answers)) is.phase_is
    (subst (λ z. ArePrinted mine (printed_entries n block.phase z report.entries report.answers)) (is.session ∙ sym is.reported)
    (subst (λ z. ArePrinted mine (printed_entries n block.phase block.session z report.answers)) is.entries
    (lines_printed block.phase block.session context block.lines block.parts shaped n report.answers)))

-- the blocks of a phase, and those behind them
blocks_then : (number : ℕ) (saids : List Said) (reports : List BlockReport) (blocks : List Block) → AreBlocksOf number saids reports blocks
    → (earlier : List Block) (floor : ℕ) (others : List Block) → AreShapedBehind earlier floor (blocks ++ others) → (line : ℕ) (rest : List Printed)
    → ArePrinted (places_behind (earlier ++ blocks) others) rest
    → ArePrinted (places_behind earlier (blocks ++ others)) (printed_blocks line number reports ++ rest)
unfolding places_behind
blocks_then number [] [] [] are earlier floor others shaped line rest h = subst (λ z. ArePrinted (places_behind z others) rest) (append-nil earlier) h
blocks_then number (said ∷ saids) (report ∷ reports) (block ∷ blocks) are earlier floor others shaped line rest h =
    let context : Context = told_by block.session fresh earlier in
    let mine : List Placed = placed_lines block.phase block.session context block.lines block.parts in
    let own : List Printed = printed_entries (line + 1) number report.session report.entries report.answers in
    let more : List Printed = printed_blocks (line + length (block_lines report)) number reports in
    subst (ArePrinted (mine ++ places_behind (earlier ++ block ∷ []) (blocks ++ others))) (sym (append_assoc own more rest))
    (printed_join mine (places_behind (earlier ++ block ∷ []) (blocks ++ others)) own (more ++ rest)
    (block_printed number said report block context are.0 shaped.1 (line + 1))
    (blocks_then number saids reports blocks are.1 (earlier ++ block ∷ []) block.phase others shaped.2 (line + length (block_lines report)) rest
    (subst (λ z. ArePrinted (places_behind z others) rest) (sym (append_assoc earlier (block ∷ []) blocks)) h)))
blocks_then number [] [] (block ∷ blocks) are earlier floor others shaped line rest h = absurd are
blocks_then number [] (report ∷ reports) blocks are earlier floor others shaped line rest h = absurd are
blocks_then number (said ∷ saids) [] blocks are earlier floor others shaped line rest h = absurd are
blocks_then number (said ∷ saids) (report ∷ reports) [] are earlier floor others shaped line rest h = absurd are

shaped_behind : (earlier : List Block) (floor : ℕ) (xs ys : List Block) → AreShapedBehind earlier floor (xs ++ ys)
    → (low : ℕ) × AreShapedBehind (earlier ++ xs) low ys
shaped_behind earlier floor [] ys a = (floor, subst (λ z. AreShapedBehind z floor ys) (sym (append-nil earlier)) a)
shaped_behind earlier floor (x ∷ xs) ys a =
    let rest : (low : ℕ) × AreShapedBehind ((earlier ++ x ∷ []) ++ xs) low ys = shaped_behind (earlier ++ x ∷ []) x.phase xs ys a.2 in
    (rest.0, subst (λ z. AreShapedBehind z rest.0 ys) (append_assoc earlier (x ∷ []) xs) rest.1)

phases_then : (number line : ℕ) (phases : List Phase) (reports : List PhaseParts) (blocks : List (List Block)) → ArePhasesOf number phases reports blocks
    → (earlier : List Block) (floor : ℕ) → AreShapedBehind earlier floor (all_blocks blocks)
    → ArePrinted (places_behind earlier (all_blocks blocks)) (printed_phases line number reports)
unfolding places_behind
phases_then number line [] [] [] are earlier floor shaped = tt
phases_then number line (phase ∷ phases) (report ∷ reports) (blocks ∷ others) are earlier floor shaped =
    let rest : (low : ℕ) × AreShapedBehind (earlier ++ blocks) low (all_blocks others) = shaped_behind earlier floor blocks (all_blocks others) shaped in
    blocks_then number phase.blocks report.blocks blocks are.1 earlier floor (all_blocks others) shaped (line + 1)
    (printed_phases (line + length (phase_lines report)) (number + 1) reports)
    (phases_then (number + 1) (line + length (phase_lines report)) phases reports others are.2 (earlier ++ blocks) rest.0 rest.1)
phases_then number line [] [] (blocks ∷ others) are earlier floor shaped = absurd are
phases_then number line [] (report ∷ reports) blocks are earlier floor shaped = absurd are
phases_then number line (phase ∷ phases) [] blocks are earlier floor shaped = absurd are
phases_then number line (phase ∷ phases) (report ∷ reports) [] are earlier floor shaped = absurd are

pub report_printed : (phases : List Phase) (report : ReportParts) (blocks : List (List Block)) → IsCut phases report blocks
    → ArePrinted (places (all_blocks blocks)) (printed_in report)
report_printed phases report blocks cut = phases_then 1 2 phases report.phases blocks cut.phases_are [] 0 cut.shaped
