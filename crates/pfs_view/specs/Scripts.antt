-- Which script is a report's.
use Rattle.std.specs.Prelude.{ℕ, ◌==◌, ◌&&◌, Bool, if◌then◌else◌, List, [], ◌∷◌, length, Option, Some, None, Result, Ok, Err}
use Rattle.std.specs.Cmp.Lexicographic.{pointwise}
use Rattle.pfs_journal.specs.declared.blocks.BlockReport.{BlockReport}
use Rattle.pfs_journal.specs.declared.report.PhaseParts.{PhaseParts}
use Rattle.pfs_script.specs.Blocks.{phases_of, sense_of}
use Rattle.pfs_script.specs.Scripts.{Fault, script_of}
use Rattle.pfs_script.specs.declared.blocks.Block.{Block}
use Rattle.pfs_script.specs.declared.blocks.Phase.{Phase}
use Rattle.pfs_script.specs.declared.forms.Form.{Form}
use Rattle.pfs_view.specs.AskedTexts.{texts_of}
use Rattle.pfs_view.specs.TextOutcomes.{outcomes_of}

-- a script's block is the one that was reported: it is of the same session, and each of its texts has an answer
unfoldable pub fits_block : Block → BlockReport → Bool
fits_block block report =
    (block.session == report.session) && (length (texts_of block.lines) == length (outcomes_of report.entries))

unfoldable pub fits_phase : Phase → PhaseParts → Bool
fits_phase phase report = pointwise fits_block phase.blocks report.blocks

unfoldable pub fits_phases : List Phase → List PhaseParts → Bool
fits_phases phases reports = pointwise fits_phase phases reports

-- the phases that a script says; none of a text that is no script
abbrev pub phases_in : Result (List Form) Fault → List Phase
phases_in (Ok lines) = phases_of (sense_of lines) lines
phases_in (Err fault) = []

abbrev pub script_phases : List ℕ → List Phase
script_phases text = phases_in (script_of text)

abbrev pub kept : List Phase → List PhaseParts → Option (List Phase)
kept phases reports = if fits_phases phases reports then Some phases else None

-- the phases of the report's script, and of no script none; None where the script is another
abbrev pub judged : List ℕ → List PhaseParts → Option (List Phase)
judged [] reports = Some []
judged (byte ∷ text) reports = kept (script_phases (byte ∷ text)) reports
