-- What is shown of a report.
use Rattle.std.specs.Prelude.{ℕ, ◌==◌, Bool, true, if◌then◌else◌, List, [], ◌∷◌, ◌++◌, length, map, slice_get, Option, Some, None, codes, decimal}
use Rattle.std.specs.List.{find, flat_map}
use Rattle.std.specs.Option.{option_map, option_map_or}
use Rattle.std.specs.Str.{bytes_eq}
use Rattle.pfs_catalogue.specs.declared.tables.TheConstants.{TABLES}
use Rattle.pfs_journal.specs.declared.blocks.BlockReport.{BlockReport}
use Rattle.pfs_journal.specs.declared.report.PhaseParts.{PhaseParts}
use Rattle.pfs_journal.specs.declared.report.ReportParts.{ReportParts}
use Rattle.pfs_journal.specs.declared.values.LostReport.{LostReport}
use Rattle.pfs_journal.specs.declared.values.TableReport.{TableReport}
use Rattle.pfs_rows.specs.Tables.{table_name}
use Rattle.pfs_rows.specs.declared.table.Table.{Table}
use Rattle.pfs_text.specs.declared.values.RowValue.{RowValue}
use Rattle.pfs_text.specs.declared.values.RowValue.TheVariants.{Number, Text}
use Rattle.pfs_script.specs.declared.blocks.Block.{Block}
use Rattle.pfs_script.specs.declared.blocks.Phase.{Phase}
use Rattle.pfs_view.specs.Answers.{blocks_text}
use Rattle.pfs_view.specs.Grids.{first_of, grid_text}
use Rattle.pfs_view.specs.Scripts.{judged}
use Rattle.pfs_view.specs.declared.columns.Headings.{Headings}
use Rattle.pfs_view.specs.declared.columns.Headings.TheVariants.{Of, Counters, Numbered}
use Rattle.pfs_view.specs.declared.columns.Times.{Times}
use Rattle.pfs_view.specs.declared.phases.Choice.{Choice}

-- which phase and which table are shown, all where none is named, and how times are
pub record Chosen : Type 0 where
  pub phase : Option ℕ
  pub table : Option (List ℕ)
  pub times : Times

abbrev pub chosen_of : Choice → Chosen
chosen_of choice = record {
  phase = choice.phase;
  table = option_map (λ name. name.now) choice.table;
  times = choice.times;
}

-- the columns of the table of that name
abbrev pub headings_of : List ℕ → Headings
headings_of name = option_map_or Of (find (λ (table : Table). bytes_eq (table_name table) name) TABLES) Numbered

-- a name on a line of its own, behind an empty one
unfoldable pub name_line : List ℕ → List ℕ
name_line name = codes "\n" ++ name ++ codes "\n"

-- the rows of the table of that name
abbrev pub table_grid : Times → List ℕ → List (List RowValue) → List ℕ
table_grid times name rows = grid_text (headings_of name) times rows

unfoldable pub named_rows : Times → List ℕ → List (List RowValue) → List ℕ
named_rows times name rows = name_line name ++ table_grid times name rows

-- a table under its name
abbrev pub table_text : Times → TableReport → List ℕ
table_text times table = named_rows times table.name table.rows

abbrev pub is_chosen_table : Option (List ℕ) → List ℕ → Bool
is_chosen_table chosen name = option_map_or (λ (one : List ℕ). bytes_eq name one) chosen true

unfoldable pub chosen_text : Chosen → TableReport → List ℕ
chosen_text chosen table = if is_chosen_table chosen.table table.name then table_text chosen.times table else []

-- the counters, as rows of a name and a number
abbrev pub counter_row : LostReport → List RowValue
counter_row lost = Text lost.name ∷ Number lost.number ∷ []

-- these counters in a table of their own
unfoldable pub counter_table : Times → List (List RowValue) → List ℕ
counter_table times rows = name_line (codes "lost") ++ grid_text Counters times rows

-- it is left out where there are none
unfoldable pub counters_text : Times → List LostReport → List ℕ
counters_text times [] = []
counters_text times (one ∷ lost) = counter_table times (map counter_row (one ∷ lost))

-- they are left out where one table is asked for
unfoldable pub lost_text : Chosen → List LostReport → List ℕ
lost_text chosen lost = option_map_or (λ (name : List ℕ). []) chosen.table (counters_text chosen.times lost)

abbrev pub is_chosen_phase : Option ℕ → ℕ → Bool
is_chosen_phase chosen number = option_map_or (λ (one : ℕ). number == one) chosen true

unfoldable pub phase_line : ℕ → List ℕ
phase_line number = codes "phase " ++ decimal number ++ codes "\n"

-- the tables that are shown, in order
unfoldable pub tables_text : Chosen → List TableReport → List ℕ
tables_text chosen tables = flat_map (chosen_text chosen) tables

-- behind the counters an empty line
unfoldable pub lost_and_end : Chosen → List LostReport → List ℕ
lost_and_end chosen lost = lost_text chosen lost ++ codes "\n"

unfoldable pub below_phase : Chosen → List TableReport → List LostReport → List ℕ
below_phase chosen tables lost = tables_text chosen tables ++ lost_and_end chosen lost

-- the texts of a script's phase beside their answers; they are left out where one table is asked for
unfoldable pub asked_text : Chosen → List Block → List BlockReport → List ℕ
asked_text chosen blocks reports =
    option_map_or (λ (name : List ℕ). []) chosen.table (blocks_text chosen.times blocks reports)

unfoldable pub behind_line : Chosen → List Block → List BlockReport → List TableReport → List LostReport → List ℕ
behind_line chosen blocks reports tables lost = asked_text chosen blocks reports ++ below_phase chosen tables lost

-- a phase under its number
unfoldable pub phase_body : Chosen → List Block → PhaseParts → List ℕ
phase_body chosen blocks phase =
    phase_line phase.number ++ behind_line chosen blocks phase.blocks phase.tables phase.lost

unfoldable pub phase_text : Chosen → List Block → PhaseParts → List ℕ
phase_text chosen blocks phase =
    if is_chosen_phase chosen.phase phase.number then phase_body chosen blocks phase else []

-- the blocks of a script's phase, none where there is no such phase
abbrev pub blocks_at : List Phase → ℕ → List Block
blocks_at said place = option_map_or (λ (phase : Phase). phase.blocks) (slice_get said place) []

unfoldable pub phase_at : Chosen → List Phase → List PhaseParts → ℕ → List ℕ
phase_at chosen said phases place =
    option_map_or (phase_text chosen (blocks_at said place)) (slice_get phases place) []

-- the phases in order, with the texts of these phases of a script
unfoldable pub phases_text : Chosen → List Phase → List PhaseParts → List ℕ
phases_text chosen said phases =
    flat_map (phase_at chosen said phases) (first_of (λ (place : ℕ). place) (length phases))

unfoldable pub stray_line : List ℕ
stray_line = codes "The script is not that of this report: its texts are left out.\n\n"

-- the script is another's
unfoldable pub stray_text : Chosen → List PhaseParts → List ℕ
stray_text chosen phases = stray_line ++ phases_text chosen [] phases

abbrev pub shown_with : Chosen → Option (List Phase) → List PhaseParts → List ℕ
shown_with chosen None phases = stray_text chosen phases
shown_with chosen (Some said) phases = phases_text chosen said phases

-- a report with the texts of a script, where it is the report's
unfoldable pub shown_text : Chosen → List ℕ → ReportParts → List ℕ
shown_text chosen script report = shown_with chosen (judged script report.phases) report.phases
