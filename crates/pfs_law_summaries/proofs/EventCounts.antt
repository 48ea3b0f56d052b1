-- A run of a script has few events.
use Rattle.std.proofs.Common.{ℕ, ◌≡◌, ◌≤◌, ◌<◌, ◌+◌, ◌*◌, ◌^◌, nat_le, List, [], ◌∷◌, ◌++◌, Option, Some, None, ap, lit<, length, map, length-append, arith}
use Rattle.std.proofs.lemmas.List.{length-map}
use Rattle.std.specs.Prelude.{filter}
use Rattle.std.proofs.lemmas.List.Sums.{sum_by-cons}
use Rattle.pfs_journal.specs.declared.blocks.BlockReport.{BlockReport}
use Rattle.pfs_journal.specs.declared.report.PhaseParts.{PhaseParts}
use Rattle.pfs_model.specs.EntryPlaces.{Block, Placed, places, up_to_phase}
use Rattle.pfs_model.specs.declared.lines.Line.TheVariants as told
use Rattle.pfs_runs.specs.ScriptLines.{line_in, connect_lines, lines_in}
use Rattle.pfs_runs.specs.Runs.{AreBlocksOf, ArePhasesOf, all_blocks}
use Rattle.pfs_script.specs.declared.blocks.Block.{Block as Said}
use Rattle.pfs_script.specs.declared.blocks.Connect.{Connect}
use Rattle.pfs_script.specs.declared.blocks.Phase.{Phase}
use Rattle.pfs_script.specs.Marks.{written_out}
use Rattle.pfs_law_script.specs.PlayableBlocks.{written_among, written_in, blocks_in, TotalLaw, FewLaw as FewBlocks}
use Rattle.pfs_law_conservation.specs.KindRows.{cells_of}
use Rattle.pfs_law_conservation.specs.RunEvents.{Ended, number_of, all_ended, counts_in}
use Rattle.pfs_law_summaries.specs.EndedEvents.{FewEndedLaw}
use Rattle.pfs_law_summaries.specs.EventRanges.{FewLaw}
use Rattle.pfs_law_summaries.proofs.LineEnds.{lines_told, all_few, chosen_few, kept_few}

connects_few : (connect : Option Connect) → length (connect_lines connect) ≤ 1
connects_few None = omega arith
connects_few (Some names) = omega arith

block_few : (said : Said) → length (lines_in said) ≤ length (written_out said.lines) + 2
block_few said =
    let body = map line_in (written_out said.lines) in
    let a = length-append (connect_lines said.connect) (body ++ told.Close ∷ []) in
    let b = length-append body (told.Close ∷ []) in
    let c = length-map (written_out said.lines) line_in in
    let d = connects_few said.connect in
    omega (arith, a, b, c, d)

blocks_few : (phase : ℕ) (said : List Said) (reports : List BlockReport) (blocks : List Block) → AreBlocksOf phase said reports blocks
    → lines_told blocks ≤ written_among said + 2 * length said
blocks_few phase [] [] [] are = omega arith
blocks_few phase (one ∷ said) (report ∷ reports) (block ∷ blocks) are =
    let s = ap {B = ℕ} length are.0.lines in
    let f = block_few one in
    let c = sum_by-cons (λ (block : Said). length (written_out block.lines)) one said in
    let r = blocks_few phase said reports blocks are.1 in
    omega (arith, s, f, c, r)
blocks_few phase [] [] (z ∷ zs) are = absurd are
blocks_few phase [] (y ∷ ys) blocks are = absurd are
blocks_few phase (x ∷ xs) [] blocks are = absurd are
blocks_few phase (x ∷ xs) (y ∷ ys) [] are = absurd are

told_join : (xs ys : List Block) → lines_told (xs ++ ys) ≡ lines_told xs + lines_told ys
told_join [] ys = omega arith
told_join (x ∷ xs) ys = omega (arith, told_join xs ys)

phases_few : (number : ℕ) (phases : List Phase) (reports : List PhaseParts) (blocks : List (List Block))
    → ArePhasesOf number phases reports blocks → lines_told (all_blocks blocks) ≤ written_in phases + 2 * blocks_in phases
phases_few number [] [] [] are = omega arith
phases_few number (phase ∷ phases) (report ∷ reports) (blocks ∷ others) are =
    let b = blocks_few number phase.blocks report.blocks blocks are.1 in
    let r = phases_few (number + 1) phases reports others are.2 in
    let j = told_join blocks (all_blocks others) in
    let c = sum_by-cons (λ (phase : Phase). written_among phase.blocks) phase phases in
    let d = sum_by-cons (λ (phase : Phase). length phase.blocks) phase phases in
    omega (arith, b, r, j, c, d)
phases_few number [] [] (z ∷ zs) are = absurd are
phases_few number [] (y ∷ ys) blocks are = absurd are
phases_few number (x ∷ xs) [] blocks are = absurd are
phases_few number (x ∷ xs) (y ∷ ys) [] are = absurd are

large : 1200001 < 2 ^ 64
large = lit< tt

pub few_ended : TotalLaw → FewBlocks → FewEndedLaw
few_ended total blocks text setting phases report s run phase =
    let all : List Placed = places (all_blocks run.blocks) in
    let c = chosen_few (λ (place : Placed). nat_le place.phase phase) all in
    let d = all_few (all_blocks run.blocks) run.rules.shaped in
    let e = phases_few 1 phases report.phases run.blocks run.phases_are in
    let f = total text setting phases s in
    let g = blocks text setting phases s in
    let h = large in
    omega (arith, c, d, e, f, g, h)

pub few : FewEndedLaw → FewLaw
few ended_few text setting phases report s run kind phase =
    let test = counts_in (cells_of setting kind) in
    let ended : List Ended = all_ended (up_to_phase phase (places (all_blocks run.blocks))) in
    let a = length-map (filter test ended) number_of in
    let b = kept_few test ended in
    let c = ended_few text setting phases report s run phase in
    omega (arith, a, b, c)
