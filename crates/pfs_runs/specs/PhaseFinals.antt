-- What stands under a phase's end: tables of what the rows and the switch words hold by the journals so far, and the
-- counters of what was lost.
use Rattle.std.specs.Prelude.{ℕ, ◌≡◌, ◌*◌, ◌==◌, ◌&&◌, Bool, true, false, if◌then◌else◌, List, [], ◌∷◌, None, All, length, map, take}
use Rattle.std.specs.List.{flat_map}
use Rattle.pfs_admin.specs.Fold.{state_of}
use Rattle.pfs_admin.specs.declared.changes.Change.{Change}
use Rattle.pfs_board.specs.declared.view.Label.{Label}
use Rattle.pfs_classes.specs.declared.setting.Setting.{Setting}
use Rattle.pfs_containers.specs.Administration.{Containers}
use Rattle.pfs_event.specs.declared.entry.Entry.{Entry}
use Rattle.pfs_event.specs.declared.entry.Entry.TheVariants as says
use Rattle.pfs_event.specs.declared.verdict.Verdict.{Verdict}
use Rattle.pfs_event.specs.declared.verdict.Verdict.TheVariants.{LostNested, LostLocker}
use Rattle.pfs_finals.specs.Counters.{counters, lost_row}
use Rattle.pfs_finals.specs.Finals.{TableRead, final_order, table_report}
use Rattle.pfs_finals.specs.declared.counters.LostCounters.{LostCounters}
use Rattle.pfs_journal.specs.declared.report.PhaseParts.{PhaseParts}
use Rattle.pfs_model.specs.EntryAsks.{digest_row}
use Rattle.pfs_model.specs.Chains.{times, row_change, word_change, action_change, each_of, is_of, is_free_after}
use Rattle.pfs_model.specs.EntryPlaces.{Placed}
use Rattle.pfs_model.specs.declared.lines.Line.{Line}
use Rattle.pfs_model.specs.declared.lines.Line.TheVariants as lines
use Rattle.pfs_readsets.specs.TablePlaces.{scope_of}
use Rattle.pfs_readsets.specs.ReadSets.{IsReadSet, target_of}
use Rattle.pfs_readsets.specs.declared.target.Target.{Target}
use Rattle.pfs_readsets.specs.declared.target.Target.TheVariants.{Row, Word}
use Rattle.pfs_rows.specs.declared.table.Reading.{Reading}
use Rattle.pfs_rows.specs.declared.table.Reading.TheVariants as readings
use Rattle.pfs_rows.specs.declared.table.Seen.{Seen}
use Rattle.pfs_rows.specs.declared.table.Seen.TheVariants.{Whole, Free}

-- how often a row was changed, and a switch word set, by these entries
abbrev pub row_version : List Placed → ℕ → ℕ
row_version so_far row = times (is_of row) (each_of row_change so_far)

abbrev pub word_version : List Placed → ℕ → ℕ
word_version so_far word = times (is_of word) (each_of word_change so_far)

-- a row shows its content at its last version, or that it is FREE; a word its flags at its last one
abbrev pub shown_row : (ℕ → ℕ → List ℕ) → List Placed → ℕ → Seen
shown_row content so_far row =
    if is_free_after so_far row then Free (4 * row_version so_far row)
    else Whole (row_version so_far row) (content row (row_version so_far row))

abbrev pub reading_of : (ℕ → ℕ → List ℕ) → (ℕ → ℕ → ℕ) → List Placed → Target → Reading
reading_of content flags so_far (Row row) = readings.Slot row (shown_row content so_far row)
reading_of content flags so_far (Word word) =
    readings.Word word (word_version so_far word) (flags word (word_version so_far word))

-- a table was read as a whole, and each reading is what its row or word shows
pub record IsRead (setting : Setting) (content : ℕ → ℕ → List ℕ) (flags : ℕ → ℕ → ℕ) (so_far : List Placed)
    (read : TableRead) : Type 0 where
  pub whole : IsReadSet (scope_of setting) read.table read.readings
  pub shown : All (λ reading. reading ≡ reading_of content flags so_far (target_of reading)) read.readings

-- the verdict of a statement, or a wait, that was lost for too many were open
abbrev pub is_lost_nested : Verdict → Bool
is_lost_nested LostNested = true
is_lost_nested _ = false

abbrev pub is_lost_locker : Verdict → Bool
is_lost_locker LostLocker = true
is_lost_locker _ = false

abbrev pub verdict_at : Entry → List Verdict
verdict_at (says.Start event verdict consumers thread class table) = verdict ∷ []
verdict_at _ = []

-- the lines in which events end
abbrev pub ends_events : Line → Bool
ends_events (lines.Stage subject) = true
ends_events lines.StageEnd = true
ends_events lines.End = true
ends_events _ = false

-- an event is brought to the row of the digests without a place as it ends: counted there, or held for it. What is held
-- and settled later, in another line, comes with no event
abbrev pub is_unplaced : Bool → Entry → Bool
is_unplaced ends (says.Add row version) = ends && (row == digest_row None)
is_unplaced ends (says.Held row first second) = ends && (row == digest_row None)
is_unplaced ends _ = false

abbrev pub is_digest_lost : Placed → Bool
is_digest_lost place = is_unplaced (ends_events place.line) place.entry

-- what was lost by these entries: containers by the administration behind their actions, digests by the statements that
-- were without a place, events by their verdicts
abbrev pub lost_behind : Containers → List Placed → LostCounters
lost_behind containers so_far = record {
  threads = containers.lost_threads;
  accounts = containers.lost_accounts;
  users = containers.lost_users;
  hosts = containers.lost_hosts;
  digests = times is_digest_lost so_far;
  statements = times is_lost_nested (each_of verdict_at so_far);
  waits = times is_lost_locker (each_of verdict_at so_far);
}

-- who is connected where behind the actions of these entries
abbrev pub containers_behind : Setting → (Label → Change) → List Label → List Placed → Containers
containers_behind setting change labels so_far =
    (state_of setting change (take (length (each_of action_change so_far)) labels)).kept.now

-- the tables are those of the order that have rows, each by its read set, and the counters those that aren't 0
pub record IsFinal (setting : Setting) (change : Label → Change) (labels : List Label) (content : ℕ → ℕ → List ℕ)
    (flags : ℕ → ℕ → ℕ) (so_far : List Placed) (report : PhaseParts) : Type 0 where
  pub reads : List TableRead
  pub order : map (λ (read : TableRead). read.table) reads ≡ final_order
  pub each : All (IsRead setting content flags so_far) reads
  pub tables : report.tables ≡ flat_map (table_report setting) reads
  pub lost : report.lost
      ≡ flat_map (lost_row setting.classes (lost_behind (containers_behind setting change labels so_far) so_far)) counters
