-- What it means that a report is cut, or that a line of it stands in the way.
use Rattle.std.specs.Prelude.{ℕ, ◌≡◌, ◌+◌, List, [], ◌∷◌, ◌++◌, length, Result, Ok, Err, Vec}
use Rattle.std.specs.List.{flat_map}
use Rattle.std.specs.BTreeMap.{BTreeMap}
use Rattle.std.specs.declared.alloc.Global.{Global}
use Rattle.pfs_event.specs.declared.entry.Entry.{Entry}
use Rattle.pfs_journal.specs.ReportLines.{block_lines, phase_lines}
use Rattle.pfs_journal.specs.declared.blocks.BlockReport.{BlockReport}
use Rattle.pfs_journal.specs.declared.report.PhaseParts.{PhaseParts}
use Rattle.pfs_journal.specs.declared.report.ReportParts.{ReportParts}
use Rattle.pfs_model.specs.declared.lines.Line.{Line}
use Rattle.pfs_model.specs.Contexts.{Context}
use Rattle.pfs_model.specs.EntryPlaces.{Block, after_lines}
use Rattle.pfs_model.specs.JournalCuts.{parts_of}
use Rattle.pfs_script.specs.declared.blocks.Block.{Block as Said}
use Rattle.pfs_script.specs.declared.blocks.Phase.{Phase}
use Rattle.pfs_check_faults.specs.ShapeFaults.{blocks_cut, line_of_rest, phases_cut, report_cut, with_block, with_blocks}
use Rattle.pfs_check_parts.specs.Parts.{pieces}
use Rattle.pfs_check_trail.specs.Trails.{IsTrailOf}
use Rattle.pfs_check_cut.specs.declared.blocks.CutBlock.{CutBlock}
use Rattle.pfs_check_cut.specs.declared.blocks.CutPhase.{CutPhase}
use Rattle.pfs_check_cut.specs.declared.blocks.ShapeFault.{ShapeFault}
use Rattle.pfs_check_cut.specs.declared.blocks.ShapeFault.TheVariants.{Line as at_line, NoMemory}
use Rattle.pfs_check_cut.specs.Sessions.{AreTrailsOf}

-- the block of a report that is cut so
abbrev pub block_by : CutBlock → BlockReport → Block
block_by cut report = record {
  phase = cut.phase;
  session = cut.session;
  lines = cut.lines.items;
  parts = pieces 0 cut.ends.items report.entries;
}

abbrev pub blocks_by : List CutBlock → List BlockReport → List Block
blocks_by [] reports = []
blocks_by (cut ∷ cuts) [] = []
blocks_by (cut ∷ cuts) (report ∷ reports) = block_by cut report ∷ blocks_by cuts reports

abbrev pub phases_by : List CutPhase → List PhaseParts → List (List Block)
phases_by [] reports = []
phases_by (cut ∷ cuts) [] = []
phases_by (cut ∷ cuts) (report ∷ reports) = blocks_by cut.blocks.items report.blocks ∷ phases_by cuts reports

-- the entries of a block whose `session` line this is, behind entries that tell this
abbrev pub AreEntriesCut : Context → ℕ → List Line → BlockReport → Result (Vec ℕ Global) ShapeFault → Context → Type 0
AreEntriesCut context line lines report (Ok ends) trail =
    (parts_of context lines report.entries ≡ Ok (pieces 0 ends.items report.entries))
    × IsTrailOf (after_lines context lines (pieces 0 ends.items report.entries)) trail
AreEntriesCut context line lines report (Err (at_line at)) trail =
    (rest : List Entry) × (parts_of context lines report.entries ≡ Err rest) × (at ≡ line_of_rest line report rest)
AreEntriesCut context line lines report (Err NoMemory) trail = Unit {0}

-- one block of a phase, behind earlier ones; whatever blocks follow it
abbrev pub IsBlockCut : List Block → ℕ → ℕ → Said → BlockReport → Result CutBlock ShapeFault → BTreeMap ℕ Context → Type 0
IsBlockCut earlier phase line said report (Ok cut) trails =
    AreTrailsOf (earlier ++ block_by cut report ∷ []) trails
    × ((others : List Said) (reports : List BlockReport) → blocks_cut earlier phase line (said ∷ others) (report ∷ reports)
    ≡ with_block (block_by cut report) (blocks_cut (earlier ++ block_by cut report ∷ []) phase
    (line + length (block_lines report)) others reports))
IsBlockCut earlier phase line said report (Err (at_line at)) trails =
    (others : List Said) (reports : List BlockReport)
    → blocks_cut earlier phase line (said ∷ others) (report ∷ reports) ≡ Err at
IsBlockCut earlier phase line said report (Err NoMemory) trails = Unit {0}

-- the blocks of a phase, with the line behind them
abbrev pub AreBlocksCut : List Block → ℕ → ℕ → List Said → List BlockReport
    → Result (Vec CutBlock Global × ℕ) ShapeFault → BTreeMap ℕ Context → Type 0
AreBlocksCut earlier phase line saids reports (Ok cut) trails =
    AreTrailsOf (earlier ++ blocks_by cut.0.items reports) trails
    × (blocks_cut earlier phase line saids reports ≡ Ok (blocks_by cut.0.items reports))
    × (cut.1 ≡ line + length (flat_map block_lines reports))
AreBlocksCut earlier phase line saids reports (Err (at_line at)) trails =
    blocks_cut earlier phase line saids reports ≡ Err at
AreBlocksCut earlier phase line saids reports (Err NoMemory) trails = Unit {0}

-- one phase, with the line behind it; whatever phases follow it
abbrev pub IsPhaseCut : List Block → ℕ → ℕ → Phase → PhaseParts → Result (CutPhase × ℕ) ShapeFault
    → BTreeMap ℕ Context → Type 0
IsPhaseCut earlier number line phase report (Ok cut) trails =
    AreTrailsOf (earlier ++ blocks_by cut.0.blocks.items report.blocks) trails
    × ((phases : List Phase) (reports : List PhaseParts)
    → phases_cut earlier number line (phase ∷ phases) (report ∷ reports)
    ≡ with_blocks (blocks_by cut.0.blocks.items report.blocks)
    (phases_cut (earlier ++ blocks_by cut.0.blocks.items report.blocks) (number + 1)
    (line + length (phase_lines report)) phases reports))
    × (cut.1 ≡ line + length (phase_lines report))
IsPhaseCut earlier number line phase report (Err (at_line at)) trails =
    (phases : List Phase) (reports : List PhaseParts)
    → phases_cut earlier number line (phase ∷ phases) (report ∷ reports) ≡ Err at
IsPhaseCut earlier number line phase report (Err NoMemory) trails = Unit {0}

-- a report: its blocks are those of the script, in these parts; or this is the first line that no report of the script
-- has there
abbrev pub IsReportCut : List Phase → ReportParts → Result (Vec CutPhase Global) ShapeFault → Type 0
IsReportCut phases report (Ok cut) = report_cut phases report ≡ Ok (phases_by cut.items report.phases)
IsReportCut phases report (Err (at_line at)) = report_cut phases report ≡ Err at
IsReportCut phases report (Err NoMemory) = Unit {0}
