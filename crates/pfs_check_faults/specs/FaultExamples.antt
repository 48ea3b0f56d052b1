-- Faults, worked: the report of a run of three sessions in three phases, with one change each, and the line of the
-- fault.
use Rattle.std.specs.Prelude.{ℕ, ◌≡◌, false, List, [], ◌∷◌, ◌++◌, drop, Some, None, Ok, Err}
use Rattle.pfs_classes.specs.declared.setting.Setting.{Setting}
use Rattle.pfs_event.specs.declared.entry.Entry.{Entry}
use Rattle.pfs_event.specs.declared.entry.Entry.TheVariants as says
use Rattle.pfs_event.specs.declared.verdict.Verdict.TheVariants.{Attributed, LostThread}
use Rattle.pfs_journal.specs.declared.blocks.BlockReport.{BlockReport}
use Rattle.pfs_journal.specs.declared.report.PhaseParts.{PhaseParts}
use Rattle.pfs_journal.specs.declared.report.ReportParts.{ReportParts}
use Rattle.pfs_model.specs.EntryPlaces.{Block}
use Rattle.pfs_model.specs.JournalCuts.{joined}
use Rattle.pfs_runs.specs.RunExamples.{blocks, labels, phases, quit_entries, reports, unnumbered, waiting, waiting_parts, working, working_parts}
use Rattle.pfs_runs.specs.ScriptLines.{lines_in}
use Rattle.pfs_check_faults.specs.declared.rules.Rule.TheVariants as rules
use Rattle.pfs_check_faults.specs.Judgements.{Fails}
use Rattle.pfs_check_faults.specs.ReportCases.{Case, Findings}
use Rattle.pfs_check_faults.specs.ShapeFaults.{report_cut}

abbrev pub report_of : List PhaseParts → ReportParts
report_of phases = record { format = 1; phases = phases }

abbrev pub phase_of : ℕ → List BlockReport → PhaseParts
phase_of number blocks = record { number = number; blocks = blocks; tables = []; lost = [] }

abbrev pub journal_of : ℕ → List Entry → BlockReport
journal_of session entries = record { session = session; entries = entries; answers = [] }

-- with other blocks in the first phase, or in the second one
abbrev pub first_as : List BlockReport → ReportParts
first_as blocks = report_of (phase_of 1 blocks ∷ drop 1 reports)

abbrev pub second_as : ℕ → List BlockReport → ReportParts
second_as number blocks =
    report_of (phase_of 1 (journal_of 1 (joined working_parts) ∷ journal_of 2 (joined waiting_parts) ∷ [])
    ∷ phase_of number blocks ∷ drop 2 reports)

-- The second session's journal has three entries, the `session` line is line 30, and `final` is line 34.
abbrev pub connected : ℕ → Entry
connected action = says.Connect action None None None None

abbrev pub lost : Entry
lost = says.Start None LostThread None None None None

abbrev pub second_says : ℕ → List Entry → ReportParts
second_says session entries = first_as (journal_of 1 (joined working_parts) ∷ journal_of session entries ∷ [])

-- Of the first rule: what is missing is told at the line that stands there instead, and what is one more at its own.
pub record WorkedShapes : Type 0 where
  pub whole : report_cut phases (report_of reports) ≡ Ok blocks
  pub entry_missing : report_cut phases (second_says 2 (connected 2 ∷ lost ∷ [])) ≡ Err 33
  pub entry_more : report_cut phases (second_says 2 (connected 2 ∷ lost ∷ unnumbered ∷ says.Settle ∷ [])) ≡ Err 34
  pub entries_swapped : report_cut phases (second_says 2 (connected 2 ∷ unnumbered ∷ lost ∷ [])) ≡ Err 32
  pub other_session : report_cut phases (second_says 3 (joined waiting_parts)) ≡ Err 30
  pub block_missing : report_cut phases (first_as (journal_of 1 (joined working_parts) ∷ [])) ≡ Err 30
  pub block_more : report_cut phases (first_as (journal_of 1 (joined working_parts)
      ∷ journal_of 2 (joined waiting_parts) ∷ journal_of 3 [] ∷ [])) ≡ Err 34
  pub other_phase : report_cut phases (second_as 3 (journal_of 2 [] ∷ journal_of 1 quit_entries ∷ [])) ≡ Err 35
  pub phase_missing : report_cut phases (report_of (phase_of 1 (journal_of 1 (joined working_parts)
      ∷ journal_of 2 (joined waiting_parts) ∷ []) ∷ phase_of 2 (journal_of 2 [] ∷ journal_of 1 quit_entries ∷ []) ∷ []))
      ≡ Err 53

-- what is found where the blocks of the first phase, or the entries of the second one, are others
abbrev pub found : List (List Block) → Findings
found blocks = record { blocks = blocks; labels = labels; counted = λ action row. false; content = λ row version. [] }

abbrev pub first_found : List (List Entry) → List (List Entry) → Findings
first_found working_parts waiting_parts = found
    ((record { phase = 1; session = 1; lines = lines_in working; parts = working_parts }
    ∷ record { phase = 1; session = 2; lines = lines_in waiting; parts = waiting_parts } ∷ [])
    ∷ drop 1 blocks)

abbrev pub case_of : Setting → List (List Entry) → List (List Entry) → Case
case_of setting working_parts waiting_parts = record {
  setting = setting;
  phases = phases;
  report = first_as (journal_of 1 (joined working_parts) ∷ journal_of 2 (joined waiting_parts) ∷ []);
}

-- The second session says the number of the first one's action, or one that is above the number of actions. The first
-- one's info is written twice at one version. Its first event saw its thread's word before its own connect set it. An
-- event of it has another number than its kind's next.
abbrev pub waiting_with : ℕ → List (List Entry)
waiting_with action = (connected action ∷ []) ∷ drop 1 waiting_parts

abbrev pub connects_with : List Entry → List (List Entry)
connects_with tags =
    (says.Connect 1 (Some 0) None (Some 0) (Some 0) ∷ (tags ++ says.Set 1 1 3 ∷ [])) ∷ drop 1 working_parts

abbrev pub starts_with : ℕ → ℕ → List (List Entry)
starts_with event version =
    (says.Connect 1 (Some 0) None (Some 0) (Some 0) ∷ says.Tag 1 1 ∷ says.Tag 65 1 ∷ says.Tag 97 1 ∷ says.Set 1 1 3
    ∷ []) ∷ (says.Start (Some event) Attributed (Some 0) (Some version) (Some 0) None ∷ []) ∷ drop 2 working_parts

pub record WorkedFaults (setting : Setting) : Type 0 where
  pub said_twice : Fails rules.Actions (case_of setting working_parts (waiting_with 1))
      (first_found working_parts (waiting_with 1)) 31
  pub said_above : Fails rules.Actions (case_of setting working_parts (waiting_with 5))
      (first_found working_parts (waiting_with 5)) 31
  pub written_twice : Fails rules.Chain
      (case_of setting (connects_with (says.Tag 1 1 ∷ says.Tag 65 1 ∷ says.Tag 65 1 ∷ [])) waiting_parts)
      (first_found (connects_with (says.Tag 1 1 ∷ says.Tag 65 1 ∷ says.Tag 65 1 ∷ [])) waiting_parts) 7
  pub written_first : Fails rules.Chain
      (case_of setting (connects_with (says.Tag 1 1 ∷ says.Tag 65 0 ∷ says.Tag 97 1 ∷ [])) waiting_parts)
      (first_found (connects_with (says.Tag 1 1 ∷ says.Tag 65 0 ∷ says.Tag 97 1 ∷ [])) waiting_parts) 6
  pub seen_below : Fails rules.Seen (case_of setting (starts_with 1 0) waiting_parts)
      (first_found (starts_with 1 0) waiting_parts) 9
  pub numbered_above : Fails rules.Numbers (case_of setting (starts_with 2 1) waiting_parts)
      (first_found (starts_with 2 1) waiting_parts) 9

abbrev pub WorkedCases : Type 0
WorkedCases = (setting : Setting) → WorkedFaults setting
