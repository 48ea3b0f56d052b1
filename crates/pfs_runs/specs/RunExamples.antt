-- A run, worked: in the first phase the first session connects without room for its account, and two of its statements
-- and one of its waits are lost; the second one finds no slot. In the second phase the second one has an empty block,
-- and the first one quits. In the third phase another session takes the slot that was left.
use Rattle.std.specs.Prelude.{ℕ, ◌≡◌, true, false, List, [], ◌∷◌, Some, None}
use Rattle.pfs_board.specs.declared.view.Label.{Label}
use Rattle.pfs_classes.specs.declared.classes.ClassRef.TheVariants as refs
use Rattle.pfs_classes.specs.declared.setting.Setting.{Setting}
use Rattle.pfs_event.specs.declared.entry.Entry.{Entry}
use Rattle.pfs_event.specs.declared.entry.Entry.TheVariants as says
use Rattle.pfs_event.specs.declared.verdict.Verdict.TheVariants.{LostThread, LostNested, LostLocker, Attributed}
use Rattle.pfs_finals.specs.declared.counters.LostCounters.{LostCounters}
use Rattle.pfs_journal.specs.declared.report.PhaseParts.{PhaseParts}
use Rattle.pfs_model.specs.JournalCuts.{joined}
use Rattle.pfs_model.specs.EntryPlaces.{Block, Placed, places, up_to_phase, IsShaped}
use Rattle.pfs_model.specs.Puts.{AreBrought}
use Rattle.pfs_readsets.specs.declared.target.Target.TheVariants.{Row, Word}
use Rattle.pfs_rows.specs.Limits.{default_limits}
use Rattle.pfs_rows.specs.declared.limits.Limits.{Limits}
use Rattle.pfs_rows.specs.declared.table.Reading.TheVariants as readings
use Rattle.pfs_rows.specs.declared.table.Seen.TheVariants.{Whole, Free}
use Rattle.pfs_script.specs.declared.blocks.Block.{Block as Said}
use Rattle.pfs_script.specs.declared.blocks.BlockLine.TheVariants as said
use Rattle.pfs_script.specs.declared.blocks.Phase.{Phase}
use Rattle.pfs_runs.specs.PhaseFinals.{lost_behind, containers_behind, is_unplaced, reading_of}
use Rattle.pfs_runs.specs.Labels.{AreLabels}
use Rattle.pfs_runs.specs.ScriptLines.{lines_in, change_in}
use Rattle.pfs_runs.specs.Runs.{ArePhasesOf, all_blocks}

-- one slot and no account, and one statement may be open
abbrev pub limits : Limits
limits = record default_limits { thread_instances = 1; accounts = 0; users = 1; hosts = 1; statement_stack = 1 }

-- the first session's lines: statements in a statement, then waits in waits
abbrev pub working : Said
working = record {
  session = 1;
  connect = Some (record { user = 0; host = 1 });
  lines = said.Statement (refs.Class 2) None ∷ said.Statement (refs.Class 2) None ∷ said.End
      ∷ said.Statement (refs.Class 2) None ∷ said.End ∷ said.TableWait (refs.Class 0) 0
      ∷ said.TableWait (refs.Class 0) 0 ∷ said.TableWait (refs.Class 0) 0 ∷ said.TableWait (refs.Class 0) 0
      ∷ said.TableWait (refs.Class 0) 0 ∷ said.End ∷ said.End ∷ said.End ∷ said.End ∷ said.End ∷ said.End ∷ [];
}

abbrev pub waiting : Said
waiting = record {
  session = 2;
  connect = Some (record { user = 0; host = 1 });
  lines = said.TableWait (refs.Class 0) 0 ∷ said.End ∷ [];
}

abbrev pub idle : Said
idle = record { session = 2; connect = None; lines = [] }

abbrev pub quitting : Said
quitting = record { session = 1; connect = None; lines = said.Quit ∷ [] }

abbrev pub coming : Said
coming = record { session = 3; connect = Some (record { user = 0; host = 1 }); lines = [] }

abbrev pub phases : List Phase
phases = record { blocks = working ∷ waiting ∷ [] } ∷ record { blocks = idle ∷ quitting ∷ [] }
    ∷ record { blocks = coming ∷ [] } ∷ []

-- the entries of each line: of the five waits in one another the fifth is lost, of the statements those in the first
abbrev pub started : ℕ → ℕ → Entry
started event version = says.Start (Some event) Attributed (Some 0) (Some 1) (Some 0) (Some version)

abbrev pub ended : ℕ → Entry
ended event = says.End (Some event) (Some 5) (Some 0) (Some 1)

abbrev pub unnumbered : Entry
unnumbered = says.End None None None None

abbrev pub working_parts : List (List Entry)
working_parts =
    (says.Connect 1 (Some 0) None (Some 0) (Some 0) ∷ says.Tag 1 1 ∷ says.Tag 65 1 ∷ says.Tag 97 1 ∷ says.Set 1 1 3 ∷ [])
    ∷ (says.Start (Some 1) Attributed (Some 0) (Some 1) (Some 0) None ∷ [])
    ∷ (says.Start None LostNested (Some 0) (Some 1) (Some 0) None ∷ [])
    ∷ (unnumbered ∷ [])
    ∷ (says.Start None LostNested (Some 0) (Some 1) (Some 0) None ∷ [])
    ∷ (unnumbered ∷ [])
    ∷ (started 2 0 ∷ [])
    ∷ (started 3 0 ∷ [])
    ∷ (started 4 0 ∷ [])
    ∷ (started 5 0 ∷ [])
    ∷ (says.Start None LostLocker (Some 0) (Some 1) (Some 0) (Some 0) ∷ [])
    ∷ (unnumbered ∷ [])
    ∷ (ended 5 ∷ says.Add 129 1 ∷ [])
    ∷ (ended 4 ∷ says.Add 129 2 ∷ [])
    ∷ (ended 3 ∷ says.Add 129 3 ∷ [])
    ∷ (ended 2 ∷ says.Add 129 4 ∷ [])
    ∷ (ended 1 ∷ says.Add 131 1 ∷ [])
    ∷ []
    ∷ []

abbrev pub waiting_parts : List (List Entry)
waiting_parts =
    (says.Connect 2 None None None None ∷ [])
    ∷ (says.Start None LostThread None None None None ∷ [])
    ∷ (unnumbered ∷ [])
    ∷ []
    ∷ []

-- the slot's cells move to its user and its host, and its info is freed
abbrev pub quit_entries : List Entry
quit_entries =
    says.Act 3 ∷ says.Take 129 5 ∷ says.Give 4225 1 129 ∷ says.Give 6273 1 129 ∷ says.Take 130 1 ∷ says.Take 131 2
    ∷ says.Give 4227 1 131 ∷ says.Give 6275 1 131 ∷ says.Take 191 1 ∷ says.Take 192 1 ∷ says.Free 1 1 ∷ says.Tag 65 2
    ∷ says.Tag 97 2 ∷ says.Set 1 2 0 ∷ []

abbrev pub coming_entries : List Entry
coming_entries =
    says.Connect 4 (Some 0) None (Some 0) (Some 0) ∷ says.Tag 1 2 ∷ says.Tag 65 3 ∷ says.Tag 97 3 ∷ says.Set 1 3 3 ∷ []

abbrev pub blocks : List (List Block)
blocks =
    (record { phase = 1; session = 1; lines = lines_in working; parts = working_parts }
    ∷ record { phase = 1; session = 2; lines = lines_in waiting; parts = waiting_parts } ∷ [])
    ∷ (record { phase = 2; session = 2; lines = lines_in idle; parts = [] ∷ [] }
    ∷ record { phase = 2; session = 1; lines = lines_in quitting; parts = quit_entries ∷ [] ∷ [] } ∷ [])
    ∷ (record { phase = 3; session = 3; lines = lines_in coming; parts = coming_entries ∷ [] ∷ [] } ∷ [])
    ∷ []

-- the phases as reported; their tables are no matter here
abbrev pub reports : List PhaseParts
reports =
    record {
      number = 1;
      blocks = record { session = 1; entries = joined working_parts; answers = [] }
          ∷ record {
            session = 2;
            entries = says.Connect 2 None None None None
                ∷ says.Start None LostThread None None None None ∷ unnumbered ∷ [];
            answers = [];
          } ∷ [];
      tables = [];
      lost = [];
    }
    ∷ record {
      number = 2;
      blocks = record { session = 2; entries = []; answers = [] }
          ∷ record { session = 1; entries = quit_entries; answers = [] } ∷ [];
      tables = [];
      lost = [];
    }
    ∷ record {
      number = 3;
      blocks = record { session = 3; entries = coming_entries; answers = [] } ∷ [];
      tables = [];
      lost = [];
    } ∷ []

-- the actions: two connects, the quit, and the last connect
abbrev pub labels : List Label
labels = record { session = 1; line = 1 } ∷ record { session = 2; line = 1 } ∷ record { session = 1; line = 2 }
    ∷ record { session = 3; line = 1 } ∷ []

abbrev pub all : List Placed
all = places (all_blocks blocks)

-- what was lost by a phase's end
abbrev pub lost_by_phase : Setting → ℕ → LostCounters
lost_by_phase setting phase =
    lost_behind (containers_behind setting (change_in phases) labels (up_to_phase phase all)) (up_to_phase phase all)

-- the counters: a connect found no slot, one no account, and one more in the third phase
abbrev pub lost : LostCounters
lost = record { threads = 1; accounts = 1; users = 0; hosts = 0; digests = 0; statements = 2; waits = 1 }

abbrev pub nothing_lost : LostCounters
nothing_lost = record { threads = 0; accounts = 0; users = 0; hosts = 0; digests = 0; statements = 0; waits = 0 }

-- a phase without blocks, with this number
abbrev pub empty_report : ℕ → PhaseParts
empty_report number = record { number = number; blocks = []; tables = []; lost = [] }

-- The report's phases and blocks are the script's, and no other number of phases, nor a count from 0, is. Its journals
-- have the right shape, its labels are those of its actions, and each event is added once where `statements_digest` is
-- NO and no consumer of rings is YES; where `events_statements_current` is YES, a put of a statement is missing. A
-- digest is lost where an end adds to the row of those without a place, or holds for it, and not where what is held is
-- settled.
pub record WorkedBlocks : Type 0 where
  pub phases_are : ArePhasesOf 1 phases reports blocks
  pub counted_from_one : ArePhasesOf 0 phases reports blocks → ⊥
  pub empty_numbered : ArePhasesOf 1 (record { blocks = [] } ∷ []) (empty_report 2 ∷ []) ([] ∷ []) → ⊥
  pub none_missing : ArePhasesOf 1 phases [] [] → ⊥
  pub shaped : IsShaped (all_blocks blocks)
  pub labelled : AreLabels labels all
  pub brought : AreBrought (λ word version. 12288) all
  pub offered : AreBrought (λ word version. 12296) all → ⊥
  pub lost_added : is_unplaced true (says.Add 8385 1) ≡ true
  pub lost_held : is_unplaced true (says.Held 8385 2 0) ≡ true
  pub lost_settled : is_unplaced false (says.Add 8385 3) ≡ false
  pub not_lost : is_unplaced true (says.Add 8386 1) ≡ false

-- What stands under each phase's end, whatever the contents and the flags of the versions are: an info row that is
-- in use, then free at its last version, then in use again; one that never was; a cell at its last version, and one
-- that never changed; a ring place; a thread's word, and one that was never set; and the counters.
pub record WorkedEnd (setting : Setting) (content : ℕ → ℕ → List ℕ) (flags : ℕ → ℕ → ℕ) : Type 0 where
  pub info : reading_of content flags (up_to_phase 1 all) (Row 1) ≡ readings.Slot 1 (Whole 1 (content 1 1))
  pub info_left : reading_of content flags (up_to_phase 2 all) (Row 1) ≡ readings.Slot 1 (Free 4)
  pub info_again : reading_of content flags (up_to_phase 3 all) (Row 1) ≡ readings.Slot 1 (Whole 2 (content 1 2))
  pub info_unused : reading_of content flags (up_to_phase 2 all) (Row 33) ≡ readings.Slot 33 (Free 0)
  pub cell : reading_of content flags (up_to_phase 1 all) (Row 129) ≡ readings.Slot 129 (Whole 4 (content 129 4))
  pub cell_taken : reading_of content flags (up_to_phase 2 all) (Row 129)
      ≡ readings.Slot 129 (Whole 5 (content 129 5))
  pub cell_unused : reading_of content flags (up_to_phase 2 all) (Row 8321)
      ≡ readings.Slot 8321 (Whole 0 (content 8321 0))
  pub ring : reading_of content flags (up_to_phase 2 all) (Row 8450) ≡ readings.Slot 8450 (Free 0)
  pub word : reading_of content flags (up_to_phase 1 all) (Word 1) ≡ readings.Word 1 1 (flags 1 1)
  pub word_left : reading_of content flags (up_to_phase 2 all) (Word 1) ≡ readings.Word 1 2 (flags 1 2)
  pub word_unused : reading_of content flags (up_to_phase 2 all) (Word 2) ≡ readings.Word 2 0 (flags 2 0)
  pub lost_first : lost_by_phase setting 1 ≡ lost
  pub lost_second : lost_by_phase setting 2 ≡ lost
  pub lost_third : lost_by_phase setting 3 ≡ record lost { accounts = 2 }
  pub lost_before : lost_by_phase setting 0 ≡ nothing_lost

-- in a setting with these limits
abbrev pub WorkedEnds : Type 0
WorkedEnds = (setting : Setting) → setting.limits ≡ limits → (content : ℕ → ℕ → List ℕ) (flags : ℕ → ℕ → ℕ)
    → WorkedEnd setting content flags
