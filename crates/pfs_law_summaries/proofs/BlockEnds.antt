-- What holds of the blocks of a run because it does of the script's: each ends with the end of a block.
use Rattle.std.proofs.Common.{ℕ, ◌≡◌, ◌+◌, true, List, [], ◌∷◌, ◌++◌, refl, ap, sym, subst, ◌∙◌, map}
use Rattle.std.proofs.lemmas.List.{append_assoc}
use Rattle.pfs_model.proofs.EachLists.{each_join}
use Rattle.pfs_journal.specs.declared.blocks.BlockReport.{BlockReport}
use Rattle.pfs_journal.specs.declared.report.PhaseParts.{PhaseParts}
use Rattle.pfs_model.specs.Chains.{Each}
use Rattle.pfs_model.specs.EntryPlaces.{Block}
use Rattle.pfs_model.specs.declared.lines.Line.{Line}
use Rattle.pfs_model.specs.declared.lines.Line.TheVariants as told
use Rattle.pfs_runs.specs.ScriptLines.{lines_in, line_in, connect_lines}
use Rattle.pfs_runs.specs.Runs.{AreBlocksOf, ArePhasesOf, all_blocks}
use Rattle.pfs_script.specs.declared.blocks.Block.{Block as Said}
use Rattle.pfs_script.specs.declared.blocks.Phase.{Phase}
use Rattle.pfs_script.specs.Marks.{written_out}
use Rattle.pfs_law_conservation.specs.Premises.{is_closed}
use Rattle.pfs_law_summaries.specs.OrderlyRuns.{ClosedLaw}

-- what holds of the lines of each of the script's blocks holds of those of the run's
module _ (fact : List Line → Type 0) where
  abbrev pub OfSaid : Said → Type 0
  OfSaid said = fact (lines_in said)

  abbrev pub OfBlock : Block → Type 0
  OfBlock block = fact block.lines

  abbrev pub OfPhase : Phase → Type 0
  OfPhase phase = Each OfSaid phase.blocks

  pub of_blocks : (phase : ℕ) (saids : List Said) (reports : List BlockReport) (blocks : List Block)
      → AreBlocksOf phase saids reports blocks → Each OfSaid saids → Each OfBlock blocks
  of_blocks phase [] [] [] are holds = tt
  of_blocks phase (said ∷ saids) (report ∷ reports) (block ∷ blocks) are holds =
      (subst fact (sym are.0.lines) holds.0, of_blocks phase saids reports blocks are.1 holds.1)
  of_blocks phase [] [] (block ∷ blocks) are holds = absurd are
  of_blocks phase [] (report ∷ reports) blocks are holds = absurd are
  of_blocks phase (said ∷ saids) [] blocks are holds = absurd are
  of_blocks phase (said ∷ saids) (report ∷ reports) [] are holds = absurd are

  pub of_phases : (number : ℕ) (phases : List Phase) (reports : List PhaseParts) (blocks : List (List Block))
      → ArePhasesOf number phases reports blocks → Each OfPhase phases → Each OfBlock (all_blocks blocks)
  of_phases number [] [] [] are holds = tt
  of_phases number (phase ∷ phases) (report ∷ reports) (blocks ∷ others) are holds =
      each_join OfBlock blocks (all_blocks others) (of_blocks number phase.blocks report.blocks blocks are.1 holds.0)
      (of_phases (number + 1) phases reports others are.2 holds.1)
  of_phases number [] [] (blocks ∷ others) are holds = absurd are
  of_phases number [] (report ∷ reports) blocks are holds = absurd are
  of_phases number (phase ∷ phases) [] blocks are holds = absurd are
  of_phases number (phase ∷ phases) (report ∷ reports) [] are holds = absurd are

closed_then : (lines : List Line) → is_closed (lines ++ told.Close ∷ []) ≡ true
closed_then [] = refl
closed_then (line ∷ []) = refl
closed_then (line ∷ (other ∷ lines)) = closed_then (other ∷ lines)

abbrev IsClosed : List Line → Type 0
IsClosed lines = is_closed lines ≡ true

closed_in : (said : Said) → IsClosed (lines_in said)
closed_in said =
    ap is_closed (sym (append_assoc (connect_lines said.connect) (map line_in (written_out said.lines)) (told.Close ∷ [])))
    ∙ closed_then (connect_lines said.connect ++ map line_in (written_out said.lines))

closed_blocks : (saids : List Said) → Each (OfSaid IsClosed) saids
closed_blocks [] = tt
closed_blocks (said ∷ saids) = (closed_in said, closed_blocks saids)

closed_phases : (phases : List Phase) → Each (OfPhase IsClosed) phases
closed_phases [] = tt
closed_phases (phase ∷ phases) = (closed_blocks phase.blocks, closed_phases phases)

pub closed_law : ClosedLaw
closed_law setting phases report run =
    of_phases IsClosed 1 phases report.phases run.blocks run.phases_are (closed_phases phases)
