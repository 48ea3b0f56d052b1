-- A report that is cut has as many lines with entries as its blocks have entries.
use Rattle.std.proofs.Common.{◌≡◌, refl, ℕ, suc, ◌+◌, ◌<◌, ◌≤◌, List, [], ◌∷◌, ◌++◌, length, sym, ◌∙◌, ap, subst, arith, append_assoc, zero, inl, inr, Option, Some, None}
use Rattle.std.specs.Prelude.{◌⊎◌, slice_get}
use Rattle.std.specs.List.{flat_map}
use Rattle.std.proofs.lemmas.List.{append-nil, length-append}
use Rattle.std.proofs.lemmas.Bool.{cases_lt}
use Rattle.pfs_event.specs.declared.entry.Entry.{Entry}
use Rattle.pfs_journal.specs.ReportLines.{block_lines, phase_lines, report_lines}
use Rattle.pfs_journal.specs.declared.line.Line.TheVariants as says
use Rattle.pfs_journal.specs.declared.blocks.BlockReport.{BlockReport}
use Rattle.pfs_journal.specs.declared.report.PhaseParts.{PhaseParts}
use Rattle.pfs_journal.specs.declared.report.ReportParts.{ReportParts}
use Rattle.pfs_model.specs.declared.lines.Line.{Line}
use Rattle.pfs_model.specs.Contexts.{Context, after, fresh, turned}
use Rattle.pfs_model.specs.EntryPlaces.{AreShapedBehind, Block, Placed, placed_lines, placed_part, places, places_behind, told_by}
use Rattle.pfs_model.specs.JournalCuts.{AreShaped, joined}
use Rattle.pfs_runs.specs.Runs.{AreBlocksOf, ArePhasesOf, all_blocks}
use Rattle.pfs_script.specs.declared.blocks.Block.{Block as Said}
use Rattle.pfs_script.specs.declared.blocks.Phase.{Phase}
use Rattle.pfs_check_faults.specs.ReportCases.{Lacks, StandsOn, entry_lines, is_entry_line, numbers_where}
use Rattle.pfs_check_faults.specs.ShapeFaults.{IsCut}
use Rattle.pfs_check_line_numbers.specs.LineCounts.{result_lines}
use Rattle.pfs_check_line_numbers.proofs.EntryNumbers.{journal_count, lines_rise, no_result, where_append}
use Rattle.pfs_check_walk.proofs.EntryWalks.{first_lacks, none_before}
use Rattle.pfs_check_walk.specs.Walks.{LacksFirst, onto}
use Rattle.pfs_check_visits.specs.ReportVisits.{IsAsked, IsFirstLacking}
use Rattle.pfs_check_visits.specs.Visits.{AreKept, AreVisited}
use Rattle.pfs_check_visits.specs.declared.visited.Visited.{Visited}
use Rattle.pfs_check_visits.specs.declared.visited.Visited.TheVariants.{Kept, Lacking}
use Rattle.pfs_check_visits.proofs.LineVisits.{placed_length}

lines_count : (phase session : ℕ) (context : Context) (lines : List Line) (parts : List (List Entry)) → AreShaped context lines parts
    → length (placed_lines phase session context lines parts) ≡ length (joined parts)
unfolding joined
lines_count phase session context [] [] shaped = refl
lines_count phase session context [] (part ∷ parts) shaped = absurd shaped
lines_count phase session context (line ∷ lines) [] shaped = absurd shaped
lines_count phase session context (line ∷ lines) (part ∷ parts) shaped =
    let own = placed_length phase session line (turned context) part in
    let more = lines_count phase session (after context line part) lines parts shaped.1 in
    omega (
      arith,
      own,
      more,
      length-append (placed_part phase session line (turned context) part) (placed_lines phase session (after context line part) lines parts),
      length-append part (joined parts),
    )

-- the entries of blocks, as many as their lines have, and those behind them
blocks_count : (number n : ℕ) (saids : List Said) (reports : List BlockReport) (blocks : List Block) → AreBlocksOf number saids reports blocks
    → (earlier : List Block) (floor : ℕ) (others : List Block) → AreShapedBehind earlier floor (blocks ++ others)
    → length (places_behind earlier (blocks ++ others))
    ≡ length (numbers_where is_entry_line n (flat_map block_lines reports)) + length (places_behind (earlier ++ blocks) others)
unfolding places_behind
blocks_count number n [] [] [] are earlier floor others shaped =
    let same = ap (λ (z : List Block). length (places_behind z others)) (sym (append-nil earlier)) in
    omega (arith, same)
blocks_count number n (said ∷ saids) (report ∷ reports) (block ∷ blocks) are earlier floor others shaped =
    let context : Context = told_by block.session fresh earlier in
    let mine : List Placed = placed_lines block.phase block.session context block.lines block.parts in
    let last : ℕ = n + length (block_lines report) in
    let own = lines_count block.phase block.session context block.lines block.parts shaped.1 in
    let entries = ap length are.0.entries in
    let journal = journal_count (n + 1) report.entries report.answers in
    let more = blocks_count number last saids reports blocks are.1 (earlier ++ block ∷ []) block.phase others shaped.2 in
    let behind = ap (λ (z : List Block). length (places_behind z others)) (append_assoc earlier (block ∷ []) blocks) in
    let both = ap length (where_append is_entry_line n (block_lines report) (flat_map block_lines reports)) in
    omega (
      arith,
      own,
      entries,
      journal,
      more,
      behind,
      both,
      length-append mine (places_behind (earlier ++ block ∷ []) (blocks ++ others)),
      length-append (numbers_where is_entry_line n (block_lines report)) (numbers_where is_entry_line last (flat_map block_lines reports)),
    )
blocks_count number n [] [] (block ∷ blocks) are earlier floor others shaped = absurd are
blocks_count number n [] (report ∷ reports) blocks are earlier floor others shaped = absurd are
blocks_count number n (said ∷ saids) [] blocks are earlier floor others shaped = absurd are
blocks_count number n (said ∷ saids) (report ∷ reports) [] are earlier floor others shaped = absurd are

shaped_behind : (earlier : List Block) (floor : ℕ) (xs ys : List Block) → AreShapedBehind earlier floor (xs ++ ys)
    → (low : ℕ) × AreShapedBehind (earlier ++ xs) low ys
shaped_behind earlier floor [] ys a = (floor, subst (λ z. AreShapedBehind z floor ys) (sym (append-nil earlier)) a)
shaped_behind earlier floor (x ∷ xs) ys a =
    let rest : (low : ℕ) × AreShapedBehind ((earlier ++ x ∷ []) ++ xs) low ys = shaped_behind (earlier ++ x ∷ []) x.phase xs ys a.2 in
    (rest.0, subst (λ z. AreShapedBehind z rest.0 ys) (append_assoc earlier (x ∷ []) xs) rest.1)

-- the lines of a phase with entries are those of its blocks
phase_count : (n : ℕ) (report : PhaseParts) → length (numbers_where is_entry_line n (phase_lines report))
    ≡ length (numbers_where is_entry_line (n + 1) (flat_map block_lines report.blocks))
phase_count n report =
    ap length (where_append is_entry_line (n + 1) (flat_map block_lines report.blocks) (result_lines report)
    ∙ ap (λ (z : List ℕ). numbers_where is_entry_line (n + 1) (flat_map block_lines report.blocks) ++ z)
    (no_result ((n + 1) + length (flat_map block_lines report.blocks)) report)
    ∙ append-nil (numbers_where is_entry_line (n + 1) (flat_map block_lines report.blocks)))

phases_count : (number n : ℕ) (phases : List Phase) (reports : List PhaseParts) (blocks : List (List Block)) → ArePhasesOf number phases reports blocks
    → (earlier : List Block) (floor : ℕ) → AreShapedBehind earlier floor (all_blocks blocks)
    → length (places_behind earlier (all_blocks blocks)) ≡ length (numbers_where is_entry_line n (flat_map phase_lines reports))
unfolding places_behind
phases_count number n [] [] [] are earlier floor shaped = refl
phases_count number n (phase ∷ phases) (report ∷ reports) (blocks ∷ others) are earlier floor shaped =
    let rest : (low : ℕ) × AreShapedBehind (earlier ++ blocks) low (all_blocks others) = shaped_behind earlier floor blocks (all_blocks others) shaped in
    let last : ℕ = n + length (phase_lines report) in
    let own = blocks_count number (n + 1) phase.blocks report.blocks blocks are.1 earlier floor (all_blocks others) shaped in
    let more = phases_count (number + 1) last phases reports others are.2 (earlier ++ blocks) rest.0 rest.1 in
    let both = ap length (where_append is_entry_line n (phase_lines report) (flat_map phase_lines reports)) in
    omega (
      arith,
      own,
      more,
      both,
      phase_count n report,
      length-append (numbers_where is_entry_line n (phase_lines report)) (numbers_where is_entry_line last (flat_map phase_lines reports)),
    )
phases_count number n [] [] (blocks ∷ others) are earlier floor shaped = absurd are
phases_count number n [] (report ∷ reports) blocks are earlier floor shaped = absurd are
phases_count number n (phase ∷ phases) [] blocks are earlier floor shaped = absurd are
phases_count number n (phase ∷ phases) (report ∷ reports) [] are earlier floor shaped = absurd are

report_count : (phases : List Phase) (report : ReportParts) (blocks : List (List Block)) → IsCut phases report blocks
    → length (places (all_blocks blocks)) ≡ length (entry_lines report)
report_count phases report blocks cut =
    phases_count 1 2 phases report.phases blocks cut.phases_are [] 0 cut.shaped
    ∙ sym (ap length (where_append is_entry_line 2 (flat_map phase_lines report.phases) (says.End ∷ [])
    ∙ append-nil (numbers_where is_entry_line 2 (flat_map phase_lines report.phases))))

-- what lacks a rule first is one of them
lacks_within : (rule : List Placed → Placed → Type 0) (earlier all : List Placed) (at : ℕ) → LacksFirst rule earlier all at → at < length all
lacks_within rule earlier [] at l = absurd l
lacks_within rule earlier (place ∷ places) zero l = omega arith
lacks_within rule earlier (place ∷ places) (suc at) l =
    let more = lacks_within rule (place ∷ earlier) places at l.1 in
    omega (arith, more)

pub none_lacking : (report : ReportParts) (rule : List Placed → Placed → Type 0) (all : List Placed) (knows : List Placed → Type 0)
    (count : ℕ) → AreKept rule [] all knows count → IsAsked report rule all knows None
none_lacking report rule all knows count k = (k.keep, k.known)

-- the line of the first entry that lacks it is the first on which one does
first_line : (report : ReportParts) (rule : List Placed → Placed → Type 0) (all : List Placed) (at line : ℕ)
    → StandsOn report at line → LacksFirst rule [] all at → IsFirstLacking report rule all line
first_line report rule all at line stands l = record {
  fails = (at, stands, first_lacks rule [] all at l);
  first = λ other less f. on other less f.0 f.1 f.2 (cases_lt f.0 at);
} where
  on : (other : ℕ) → other < line → (place : ℕ) → StandsOn report place other → Lacks rule [] all place → (place < at) ⊎ (at ≤ place) → ⊥
  on other less place s k (inl h) = none_before rule [] all at l place h k
  on other less place s k (inr h) =
      let rise : line ≤ other = lines_rise is_entry_line 1 (report_lines report) at place line other stands s h in
      omega (arith, less, rise)

-- and its entry has a line
pub line_lacking : (phases : List Phase) (report : ReportParts) (blocks : List (List Block)) (rule : List Placed → Placed → Type 0)
    (knows : List Placed → Type 0) (at : ℕ) (line : Option ℕ) → IsCut phases report blocks
    → LacksFirst rule [] (places (all_blocks blocks)) at → line ≡ slice_get (entry_lines report) at
    → IsAsked report rule (places (all_blocks blocks)) knows line
line_lacking phases report blocks rule knows at (Some line) cut l e = first_line report rule (places (all_blocks blocks)) at line (sym e) l
line_lacking phases report blocks rule knows at None cut l e =
    absurd (some_at (entry_lines report) at within e) where
      within : at < length (entry_lines report)
      within =
          let first = lacks_within rule [] (places (all_blocks blocks)) at l in
          let count = report_count phases report blocks cut in
          omega (arith, first, count)

      some_at : (xs : List ℕ) (i : ℕ) → i < length xs → None ≡ slice_get xs i → ⊥
      some_at [] i h e = absurd (omega (arith, h))
      some_at (x ∷ xs) zero h e = cc
      some_at (x ∷ xs) (suc i) h e = some_at xs i (omega (arith, h)) e

-- where nothing is asked, all are known
none_lack : (earlier places : List Placed) (at : ℕ) → LacksFirst (λ earlier place. Unit {0}) earlier places at → ⊥
none_lack earlier [] at l = l
none_lack earlier (p ∷ ps) zero l = l tt
none_lack earlier (p ∷ ps) (suc at) l = none_lack (p ∷ earlier) ps at l.1

pub all_known : (all : List Placed) (knows : List Placed → Type 0) (told : Type 0) (visited : Visited)
    → AreVisited (λ earlier place. Unit {0}) [] all knows told visited → knows (onto [] all)
all_known all knows told (Kept count) v = v.0.known
all_known all knows told (Lacking at) v = absurd (none_lack [] all at v)
