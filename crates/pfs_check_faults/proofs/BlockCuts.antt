-- A report is cut into blocks exactly where they are the script's and shaped.
use Rattle.std.proofs.Common.{◌≡◌, refl, ℕ, ◌+◌, ◌≤◌, ◌==◌, Bool, true, false, List, [], ◌∷◌, ◌++◌, length, sym, ◌∙◌, ap, subst, arith, append_assoc}
use Rattle.std.specs.Prelude.{Result, Ok, Err, if◌then◌else◌}
use Rattle.std.proofs.lemmas.List.{append-nil}
use Rattle.pfs_event.specs.declared.entry.Entry.{Entry}
use Rattle.pfs_journal.specs.ReportLines.{block_lines, phase_lines}
use Rattle.pfs_journal.specs.declared.blocks.BlockReport.{BlockReport}
use Rattle.pfs_journal.specs.declared.report.PhaseParts.{PhaseParts}
use Rattle.pfs_model.proofs.ClosedShapes.{exact}
use Rattle.pfs_model.specs.Chains.{Each}
use Rattle.pfs_model.specs.Contexts.{fresh}
use Rattle.pfs_model.specs.EntryPlaces.{AreShapedBehind, Block, told_by}
use Rattle.pfs_model.specs.JournalCuts.{AreShaped, IsJournal, parts_of}
use Rattle.pfs_runs.specs.Runs.{AreBlocksOf, ArePhasesOf, IsBlockOf, all_blocks}
use Rattle.pfs_runs.specs.ScriptLines.{lines_in}
use Rattle.pfs_script.specs.declared.blocks.Block.{Block as Said}
use Rattle.pfs_script.specs.declared.blocks.Phase.{Phase}
use Rattle.pfs_check_faults.proofs.MemberCounts.{same_is, same_test}
use Rattle.pfs_check_faults.specs.ShapeFaults.{CutLaw, IsCut, OneCut, block_of, blocks_cut, on_blocks, on_parts, phases_cut, report_cut, with_block, with_blocks}

-- what a cut gives
abbrev BlocksAre : List Block → ℕ → List Said → List BlockReport → Result (List Block) ℕ → Type 0
BlocksAre earlier phase saids reports (Ok blocks) =
    AreBlocksOf phase saids reports blocks × AreShapedBehind earlier phase blocks
BlocksAre earlier phase saids reports (Err line) = Unit {0}

blocks_are : (earlier : List Block) (phase line : ℕ) (saids : List Said) (reports : List BlockReport)
    → BlocksAre earlier phase saids reports (blocks_cut earlier phase line saids reports)
unfolding blocks_cut
blocks_are earlier phase line [] [] = (tt, tt)
blocks_are earlier phase line [] (report ∷ reports) = tt
blocks_are earlier phase line (said ∷ others) [] = tt
blocks_are earlier phase line (said ∷ others) (report ∷ reports) =
    at (report.session == said.session) refl (parts_of (told_by said.session fresh earlier) (lines_in said) report.entries)
    refl (λ parts. blocks_are (earlier ++ block_of phase said parts ∷ []) phase (line + length (block_lines report)) others reports) where
      more : (parts : List (List Entry)) (rest : Result (List Block) ℕ) → report.session ≡ said.session
          → parts_of (told_by said.session fresh earlier) (lines_in said) report.entries ≡ Ok parts
          → BlocksAre (earlier ++ block_of phase said parts ∷ []) phase others reports rest
          → BlocksAre earlier phase (said ∷ others) (report ∷ reports) (with_block (block_of phase said parts) rest)
      more parts (Err n) s e h = tt
      more parts (Ok blocks) s e h =
          let journal : IsJournal (told_by said.session fresh earlier) (lines_in said) report.entries parts =
          (exact (told_by said.session fresh earlier) (lines_in said) report.entries parts).0 e in (
            (record { phase_is = refl; session = refl; reported = s; lines = refl; entries = journal.spelled }, h.0),
            (omega arith, journal.shaped, h.1),
          )

      at : (b : Bool) → (report.session == said.session) ≡ b → (r : Result (List (List Entry)) (List Entry))
          → parts_of (told_by said.session fresh earlier) (lines_in said) report.entries ≡ r
          → ((parts : List (List Entry)) → BlocksAre (earlier ++ block_of phase said parts ∷ []) phase others reports
          (blocks_cut (earlier ++ block_of phase said parts ∷ []) phase (line + length (block_lines report)) others reports))
          → BlocksAre earlier phase (said ∷ others) (report ∷ reports) (if b then on_parts line report (λ parts. with_block (block_of phase said parts)
          (blocks_cut (earlier ++ block_of phase said parts ∷ []) phase (line + length (block_lines report)) others reports)) r else Err line)
      at false e r q go = tt
      at true e (Err rest) q go = tt
      at true e (Ok parts) q go = more parts _ (same_is report.session said.session e) q (go parts)

block_is : (phase : ℕ) (said : Said) (report : BlockReport) (block : Block) → IsBlockOf phase said report block
    → block ≡ block_of phase said block.parts
block_is phase said report block h =
    ap (λ z. record { phase = z; session = block.session; lines = block.lines; parts = block.parts }) h.phase_is
    ∙ ap (λ z. record { phase = phase; session = z; lines = block.lines; parts = block.parts }) h.session
    ∙ ap (λ z. record { phase = phase; session = said.session; lines = z; parts = block.parts }) h.lines

blocks_found : (earlier : List Block) (phase floor line : ℕ) (saids : List Said) (reports : List BlockReport) (blocks : List Block)
    → AreBlocksOf phase saids reports blocks → AreShapedBehind earlier floor blocks
    → blocks_cut earlier phase line saids reports ≡ Ok blocks
unfolding blocks_cut
blocks_found earlier phase floor line [] [] [] are shaped = refl
blocks_found earlier phase floor line (said ∷ others) (report ∷ reports) (block ∷ blocks) are shaped =
    rw (same_test report.session said.session are.0.reported, cut)
    (ap (λ z. with_block z (blocks_cut (earlier ++ z ∷ []) phase (line + length (block_lines report)) others reports)) (sym is)
    ∙ ap (with_block block) (blocks_found (earlier ++ block ∷ []) phase block.phase (line + length (block_lines report)) others reports blocks are.1 shaped.2)) where
      is : block ≡ block_of phase said block.parts
      is = block_is phase said report block are.0

      cut : parts_of (told_by said.session fresh earlier) (lines_in said) report.entries ≡ Ok block.parts
      cut = (exact (told_by said.session fresh earlier) (lines_in said) report.entries block.parts).1 (record {
        shaped = subst (λ z. AreShaped (told_by said.session fresh earlier) z block.parts) are.0.lines
            (subst (λ z. AreShaped (told_by z fresh earlier) block.lines block.parts) are.0.session shaped.1);
        spelled = are.0.entries;
      })
blocks_found earlier phase floor line [] [] (block ∷ blocks) are shaped = absurd are
blocks_found earlier phase floor line [] (report ∷ reports) blocks are shaped = absurd are
blocks_found earlier phase floor line (said ∷ others) [] blocks are shaped = absurd are
blocks_found earlier phase floor line (said ∷ others) (report ∷ reports) [] are shaped = absurd are

-- all blocks of a phase have its number
phases_in : (phase : ℕ) (saids : List Said) (reports : List BlockReport) (blocks : List Block)
    → AreBlocksOf phase saids reports blocks → Each (λ (block : Block). block.phase ≡ phase) blocks
phases_in phase saids reports [] are = tt
phases_in phase (said ∷ others) (report ∷ reports) (block ∷ blocks) are = (are.0.phase_is, phases_in phase others reports blocks are.1)
phases_in phase [] [] (block ∷ blocks) are = absurd are
phases_in phase [] (report ∷ reports) (block ∷ blocks) are = absurd are
phases_in phase (said ∷ others) [] (block ∷ blocks) are = absurd are

lower : (earlier : List Block) (low high : ℕ) (blocks : List Block) → low ≤ high → AreShapedBehind earlier high blocks
    → AreShapedBehind earlier low blocks
lower earlier low high [] h shaped = tt
lower earlier low high (block ∷ blocks) h shaped = let most : high ≤ block.phase = shaped.0 in (omega arith, shaped.1, shaped.2)

shaped_join : (earlier : List Block) (floor phase : ℕ) (xs ys : List Block) → floor ≤ phase
    → Each (λ (block : Block). block.phase ≡ phase) xs → AreShapedBehind earlier floor xs → AreShapedBehind (earlier ++ xs) phase ys
    → AreShapedBehind earlier floor (xs ++ ys)
shaped_join earlier floor phase [] ys h are a b =
    lower earlier floor phase ys h (subst (λ z. AreShapedBehind z phase ys) (append-nil earlier) b)
shaped_join earlier floor phase (x ∷ xs) ys h are a b =
    let is : x.phase ≡ phase = are.0 in (
      a.0,
      a.1,
      shaped_join (earlier ++ x ∷ []) x.phase phase xs ys (omega arith) are.1 a.2
          (subst (λ z. AreShapedBehind z phase ys) (sym (append_assoc earlier (x ∷ []) xs)) b),
    )

shaped_front : (earlier : List Block) (floor : ℕ) (xs ys : List Block) → AreShapedBehind earlier floor (xs ++ ys)
    → AreShapedBehind earlier floor xs
shaped_front earlier floor [] ys a = tt
shaped_front earlier floor (x ∷ xs) ys a = (a.0, a.1, shaped_front (earlier ++ x ∷ []) x.phase xs ys a.2)

shaped_behind : (earlier : List Block) (floor : ℕ) (xs ys : List Block) → AreShapedBehind earlier floor (xs ++ ys)
    → (low : ℕ) × AreShapedBehind (earlier ++ xs) low ys
shaped_behind earlier floor [] ys a = (floor, subst (λ z. AreShapedBehind z floor ys) (sym (append-nil earlier)) a)
shaped_behind earlier floor (x ∷ xs) ys a =
    let rest : (low : ℕ) × AreShapedBehind ((earlier ++ x ∷ []) ++ xs) low ys = shaped_behind (earlier ++ x ∷ []) x.phase xs ys a.2 in
    (rest.0, subst (λ z. AreShapedBehind z rest.0 ys) (append_assoc earlier (x ∷ []) xs) rest.1)

abbrev PhasesAre : List Block → ℕ → List Phase → List PhaseParts → Result (List (List Block)) ℕ → Type 0
PhasesAre earlier number phases reports (Ok blocks) =
    ArePhasesOf number phases reports blocks × AreShapedBehind earlier number (all_blocks blocks)
PhasesAre earlier number phases reports (Err line) = Unit {0}

phases_are : (earlier : List Block) (number line : ℕ) (phases : List Phase) (reports : List PhaseParts)
    → PhasesAre earlier number phases reports (phases_cut earlier number line phases reports)
unfolding phases_cut
phases_are earlier number line [] [] = (tt, tt)
phases_are earlier number line [] (report ∷ reports) = tt
phases_are earlier number line (phase ∷ phases) [] = tt
phases_are earlier number line (phase ∷ phases) (report ∷ reports) =
    at (report.number == number) refl (blocks_cut earlier number (line + 1) phase.blocks report.blocks)
    (blocks_are earlier number (line + 1) phase.blocks report.blocks)
    (λ blocks. phases_are (earlier ++ blocks) (number + 1) (line + length (phase_lines report)) phases reports) where
      more : (blocks : List Block) (rest : Result (List (List Block)) ℕ) → report.number ≡ number
          → BlocksAre earlier number phase.blocks report.blocks (Ok blocks)
          → PhasesAre (earlier ++ blocks) (number + 1) phases reports rest
          → PhasesAre earlier number (phase ∷ phases) (report ∷ reports) (with_blocks blocks rest)
      more blocks (Err n) e are h = tt
      more blocks (Ok others) e are h = (
        (e, are.0, h.0),
        shaped_join earlier number number blocks (all_blocks others) (omega arith)
            (phases_in number phase.blocks report.blocks blocks are.0) are.1
            (lower (earlier ++ blocks) number (number + 1) (all_blocks others) (omega arith) h.1),
      )

      at : (b : Bool) → (report.number == number) ≡ b → (r : Result (List Block) ℕ)
          → BlocksAre earlier number phase.blocks report.blocks r
          → ((blocks : List Block) → PhasesAre (earlier ++ blocks) (number + 1) phases reports
          (phases_cut (earlier ++ blocks) (number + 1) (line + length (phase_lines report)) phases reports))
          → PhasesAre earlier number (phase ∷ phases) (report ∷ reports) (if b then on_blocks (λ blocks. with_blocks blocks
          (phases_cut (earlier ++ blocks) (number + 1) (line + length (phase_lines report)) phases reports)) r else Err line)
      at false e r are go = tt
      at true e (Err n) are go = tt
      at true e (Ok blocks) are go = more blocks _ (same_is report.number number e) are (go blocks)

phases_found : (earlier : List Block) (number floor line : ℕ) (phases : List Phase) (reports : List PhaseParts) (blocks : List (List Block))
    → ArePhasesOf number phases reports blocks → AreShapedBehind earlier floor (all_blocks blocks)
    → phases_cut earlier number line phases reports ≡ Ok blocks
unfolding phases_cut
phases_found earlier number floor line [] [] [] are shaped = refl
phases_found earlier number floor line (phase ∷ phases) (report ∷ reports) (blocks ∷ others) are shaped =
    rw (
      same_test report.number number are.0,
      blocks_found earlier number floor (line + 1) phase.blocks report.blocks blocks are.1 (shaped_front earlier floor blocks (all_blocks others) shaped),
    )
    (ap (with_blocks blocks) (phases_found (earlier ++ blocks) (number + 1) rest.0 (line + length (phase_lines report)) phases reports others are.2 rest.1)) where
      rest : (low : ℕ) × AreShapedBehind (earlier ++ blocks) low (all_blocks others)
      rest = shaped_behind earlier floor blocks (all_blocks others) shaped
phases_found earlier number floor line [] [] (blocks ∷ others) are shaped = absurd are
phases_found earlier number floor line [] (report ∷ reports) blocks are shaped = absurd are
phases_found earlier number floor line (phase ∷ phases) [] blocks are shaped = absurd are
phases_found earlier number floor line (phase ∷ phases) (report ∷ reports) [] are shaped = absurd are

pub cut_law : CutLaw
cut_law phases report blocks = (is_cut, λ h. phases_found [] 1 0 2 phases report.phases blocks h.phases_are h.shaped) where
  is_cut : report_cut phases report ≡ Ok blocks → IsCut phases report blocks
  is_cut e =
      let are : PhasesAre [] 1 phases report.phases (Ok blocks) =
      subst (PhasesAre [] 1 phases report.phases) e (phases_are [] 1 2 phases report.phases) in
      record { phases_are = are.0; shaped = lower [] 0 1 (all_blocks blocks) (omega arith) are.1 }

got : List (List Block) → Result (List (List Block)) ℕ → List (List Block)
got blocks (Ok others) = others
got blocks (Err line) = blocks

pub one_cut : OneCut
unfolding got
one_cut phases report blocks others a b =
    ap (got blocks) (sym ((cut_law phases report blocks).1 a) ∙ (cut_law phases report others).1 b)
