-- The first rule: a report cut into the blocks of its script, or the first line that no report of the script has there.
use Rattle.std.specs.Prelude.{ℕ, ◌≡◌, ◌↔◌, ◌+◌, ◌==◌, if◌then◌else◌, List, [], ◌∷◌, ◌++◌, length, Result, Ok, Err}
use Rattle.pfs_event.specs.declared.entry.Entry.{Entry}
use Rattle.pfs_journal.specs.ReportLines.{block_lines, journal_lines, phase_lines}
use Rattle.pfs_journal.specs.declared.blocks.BlockReport.{BlockReport}
use Rattle.pfs_journal.specs.declared.report.PhaseParts.{PhaseParts}
use Rattle.pfs_journal.specs.declared.report.ReportParts.{ReportParts}
use Rattle.pfs_model.specs.Contexts.{fresh}
use Rattle.pfs_model.specs.Cuts.{front}
use Rattle.pfs_model.specs.EntryPlaces.{Block, IsShaped, told_by}
use Rattle.pfs_model.specs.JournalCuts.{parts_of}
use Rattle.pfs_runs.specs.Runs.{ArePhasesOf, all_blocks}
use Rattle.pfs_runs.specs.ScriptLines.{lines_in}
use Rattle.pfs_script.specs.declared.blocks.Block.{Block as Said}
use Rattle.pfs_script.specs.declared.blocks.Phase.{Phase}

-- The phases and blocks of the report are the script's, in these blocks, and the entries of each are what its lines ask
-- for and allow.
pub record IsCut (phases : List Phase) (report : ReportParts) (blocks : List (List Block)) : Type 0 where
  pub phases_are : ArePhasesOf 1 phases report.phases blocks
  pub shaped : IsShaped (all_blocks blocks)

-- a block of the script, with the entries of each of its lines
abbrev pub block_of : ℕ → Said → List (List Entry) → Block
block_of phase said parts = record { phase = phase; session = said.session; lines = lines_in said; parts = parts }

-- Below, `line` is the number of the first line that isn't cut yet, and an Err names the line at which the cut stops:
-- the one that no report of the script has there.
abbrev pub with_block : Block → Result (List Block) ℕ → Result (List Block) ℕ
with_block block (Ok blocks) = Ok (block ∷ blocks)
with_block block (Err line) = Err line

abbrev pub with_blocks : List Block → Result (List (List Block)) ℕ → Result (List (List Block)) ℕ
with_blocks blocks (Ok others) = Ok (blocks ∷ others)
with_blocks blocks (Err line) = Err line

-- Of a block whose `session` line is this one: the line behind the entries before those that are left, and behind their
-- rows. Where no entry is left, it is the line behind the block.
abbrev pub line_of_rest : ℕ → BlockReport → List Entry → ℕ
line_of_rest line report rest = line + 1 + length (journal_lines (front report.entries rest) report.answers)

abbrev pub on_parts : ℕ → BlockReport → (List (List Entry) → Result (List Block) ℕ)
    → Result (List (List Entry)) (List Entry) → Result (List Block) ℕ
on_parts line report go_on (Ok parts) = go_on parts
on_parts line report go_on (Err rest) = Err (line_of_rest line report rest)

abbrev pub on_blocks : (List Block → Result (List (List Block)) ℕ) → Result (List Block) ℕ
    → Result (List (List Block)) ℕ
on_blocks go_on (Ok blocks) = go_on blocks
on_blocks go_on (Err line) = Err line

-- The blocks of a phase, behind the earlier blocks: of the sessions of the script in their order, each journal cut by
-- what the session's earlier entries tell.
unfoldable pub blocks_cut : List Block → ℕ → ℕ → List Said → List BlockReport → Result (List Block) ℕ
blocks_cut earlier phase line [] [] = Ok []
blocks_cut earlier phase line [] (report ∷ reports) = Err line
blocks_cut earlier phase line (said ∷ others) [] = Err line
blocks_cut earlier phase line (said ∷ others) (report ∷ reports) =
    if report.session == said.session
    then on_parts line report (λ parts. with_block (block_of phase said parts)
    (blocks_cut (earlier ++ block_of phase said parts ∷ []) phase (line + length (block_lines report)) others reports))
    (parts_of (told_by said.session fresh earlier) (lines_in said) report.entries)
    else Err line

-- the phases, numbered from this one on, behind the earlier blocks
unfoldable pub phases_cut : List Block → ℕ → ℕ → List Phase → List PhaseParts → Result (List (List Block)) ℕ
phases_cut earlier number line [] [] = Ok []
phases_cut earlier number line [] (report ∷ reports) = Err line
phases_cut earlier number line (phase ∷ phases) [] = Err line
phases_cut earlier number line (phase ∷ phases) (report ∷ reports) =
    if report.number == number
    then on_blocks (λ blocks. with_blocks blocks
    (phases_cut (earlier ++ blocks) (number + 1) (line + length (phase_lines report)) phases reports))
    (blocks_cut earlier number (line + 1) phase.blocks report.blocks)
    else Err line

-- The blocks of a report, or the line at which the cut stops. The first line is that of the format.
abbrev pub report_cut : List Phase → ReportParts → Result (List (List Block)) ℕ
report_cut phases report = phases_cut [] 1 2 phases report.phases

abbrev pub CutLaw : Type 0
CutLaw = (phases : List Phase) (report : ReportParts) (blocks : List (List Block))
    → (report_cut phases report ≡ Ok blocks) ↔ IsCut phases report blocks

-- so a report has its blocks in one way
abbrev pub OneCut : Type 0
OneCut = (phases : List Phase) (report : ReportParts) (blocks others : List (List Block))
    → IsCut phases report blocks → IsCut phases report others → blocks ≡ others
