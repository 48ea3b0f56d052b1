-- What a top call answers, and the text that goes with each answer.
use Rattle.std.specs.Prelude.{ℕ, ◌≡◌, ◌≤◌, ◌<◌, ◌⊎◌, List, ◌++◌, length, codes, decimal, Option, Some, None, IfSome, Result, Ok, Err, String}
use Rattle.std.specs.declared.alloc.Global.{Global}
use Rattle.pfs_outside.specs.DeviceCalls.{Added}
use Rattle.pfs_outside.specs.WholeStreams.{AddedPart, ReadToEnd, ReadPast, ReadToFault, ReadPart}
use Rattle.pfs_outside.specs.declared.writing.WriteStop.{WriteStop}
use Rattle.pfs_outside.specs.declared.writing.WriteStop.TheVariants as stop
use Rattle.pfs_classes.specs.declared.setting.Setting.{Setting}
use Rattle.pfs_script.specs.declared.blocks.Phase.{Phase}
use Rattle.pfs_script.specs.declared.reasons.Reason.{Reason}
use Rattle.pfs_script.specs.declared.reasons.Reason.TheVariants.{BadByte, OpenLine, BadForm, OutOfPlace, BadNumber, BadSession, UnknownName, BadLimit, BadNesting, BadStatement, TooLong, TooMuch}
use Rattle.pfs_script.specs.Scripts.{IsScript, IsFirstFault}
use Rattle.pfs_board_store.specs.declared.rows.Seats.{Seats}
use Rattle.pfs_law_summaries.specs.SummaryLaws.{IsCountedRun, IsPlainCountedRun}
use Rattle.pfs_threads.specs.Records.{HasRecorded}
use Rattle.pfs_journal.specs.declared.report.ReportParts.{ReportParts}
use Rattle.pfs_journal.specs.ReportLines.{FitsReport}
use Rattle.pfs_journal.specs.Reports.{IsReport}
use Rattle.pfs_journal.specs.Spelling.{spelling}
use Rattle.pfs_gen.specs.GeneratedScript.{script_text}
use Rattle.pfs_law_load.specs.LoadText.{load_text}
use Rattle.pfs_law_load.specs.OneText.{IsLoadText}
use Rattle.pfs_top.specs.CommandWords.{AsksRun, AsksPlain, AsksLoad, IsCommand}
use Rattle.pfs_top.specs.declared.statuses.Status.{Status}
use Rattle.pfs_top.specs.declared.statuses.Status.TheVariants.{Done, Usage, BadScript, ReadFault, WriteFault, NoMemory}

-- how many bytes a script may have
abbrev pub most_bytes : ℕ
most_bytes = 1048576

abbrev pub reason_number : Reason → ℕ
reason_number BadByte = 1
reason_number OpenLine = 2
reason_number BadForm = 3
reason_number OutOfPlace = 4
reason_number BadNumber = 5
reason_number BadSession = 6
reason_number UnknownName = 7
reason_number BadLimit = 8
reason_number BadNesting = 9
reason_number BadStatement = 10
reason_number TooLong = 11
reason_number TooMuch = 12

-- the exit status that a status is
abbrev pub status_number : Status → ℕ
status_number Done = 0
status_number Usage = 1
status_number (BadScript line reason) = 2
status_number ReadFault = 3
status_number WriteFault = 4
status_number NoMemory = 5

unfoldable pub usage_text : List ℕ
usage_text = codes "usage: run | plain | load N\n"

unfoldable pub fault_text : ℕ → Reason → List ℕ
fault_text line reason =
    codes "bad script: line " ++ decimal line ++ codes " reason " ++ decimal (reason_number reason) ++ codes "\n"

-- what a report of a script's phases is that were run in some way
abbrev pub Runs : Type 1
Runs = Setting → List Phase → ReportParts → Type 0

-- the sessions of each phase at once: summaries and rings show what counts there, whoever did what when. Where a store
-- is handed on, it is the one that recorded this very report
abbrev pub RunOn : Option Seats → Runs
RunOn None setting phases report = IsCountedRun setting phases report
RunOn (Some store) setting phases report = IsCountedRun setting phases report × HasRecorded setting phases report store

-- `run` and `plain` write the whole report: at Done each number on its lines is below 2^64, so that what was written can
-- be read back. The row of WriteFault is for a front of it, of which that is not told
abbrev pub HasReport : Runs → Setting → List Phase → Status → List ℕ → Type 0
HasReport Ran setting phases Done due = (report : ReportParts) × IsReport report × FitsReport report
    × Ran setting phases report × (due ≡ spelling report)
HasReport Ran setting phases WriteFault due = (report : ReportParts) × IsReport report × Ran setting phases report
    × (due ≡ spelling report)
HasReport Ran setting phases _ due = ⊥

-- `load` writes the summaries of its last phase
abbrev pub HasSummaries : Setting → List Phase → Status → List ℕ → Type 0
HasSummaries setting phases Done due = (report : ReportParts) × IsReport report × IsCountedRun setting phases report
    × (due ≡ load_text report)
HasSummaries setting phases _ due = ⊥

-- the text due to `load` with this number, by the script generated of it. It is the one text of all runs of that script,
-- in whatever order their sessions came: what the report of `plain` shows there
abbrev pub HasLoad : ℕ → Status → List ℕ → Type 0
HasLoad number Done due = IsLoadText number due × (setting : Setting) × (phases : List Phase)
    × IsScript (script_text number) setting phases × HasSummaries setting phases Done due
HasLoad number _ due = ⊥

-- of a fault
abbrev pub HasFault : ℕ → Reason → Status → List ℕ → Type 0
HasFault line reason (BadScript number cause) due = (number ≡ line) × (cause ≡ reason) × (due ≡ fault_text line reason)
HasFault line reason _ due = ⊥

-- of bytes that are no script
abbrev pub HasBadText : List ℕ → Status → List ℕ → Type 0
HasBadText bytes (BadScript line reason) due = IsFirstFault bytes line reason × (due ≡ fault_text line reason)
HasBadText bytes _ due = ⊥

-- these are all the bytes that a source with these left has, where it tells them, and they are no more than a script may
-- have
abbrev pub IsWithin : Option (List ℕ) → List ℕ → Type 0
IsWithin input bytes = IfSome input (λ text. bytes ≡ text) × (length bytes ≤ most_bytes)

-- it has this script
abbrev pub HasScript : Option (List ℕ) → Setting → List Phase → Type 0
HasScript input setting phases = (bytes : List ℕ) × IsWithin input bytes × IsScript bytes setting phases

-- it has none: its bytes are none, or are too many
abbrev pub HasBadInput : Option (List ℕ) → Status → List ℕ → Type 0
HasBadInput input (BadScript line reason) due =
    ((line ≡ 0) × (reason ≡ TooLong) × (due ≡ fault_text line reason) × IfSome input (λ text. most_bytes < length text))
    ⊎ ((bytes : List ℕ) × IsWithin input bytes × HasBadText bytes (BadScript line reason) due)
HasBadInput input _ due = ⊥

-- the text due to it: the report of its script, or the line of its fault
abbrev pub HasInput : Runs → Option (List ℕ) → Status → List ℕ → Type 0
HasInput Ran input (BadScript line reason) due = HasBadInput input (BadScript line reason) due
HasInput Ran input status due = (setting : Setting) × (phases : List Phase) × HasScript input setting phases
    × HasReport Ran setting phases status due

-- of words that are no command
abbrev pub HasUsage : Status → List ℕ → Type 0
HasUsage Usage due = due ≡ usage_text
HasUsage _ due = ⊥

-- the text due to `pfs_plain`: that of its one command, or the usage line
abbrev pub HasPlain : List (String Global) → Option (List ℕ) → Status → List ℕ → Type 0
HasPlain words input Usage due = (¬ AsksPlain words) × HasUsage Usage due
HasPlain words input status due = AsksPlain words × HasInput IsPlainCountedRun input status due

-- the text due to `pfs`, where it hands this store on: that of each command, or the usage line
abbrev pub Has : Option Seats → List (String Global) → Option (List ℕ) → Status → List ℕ → Type 0
Has store words input Usage due = (¬ IsCommand words) × HasUsage Usage due
Has store words input status due = (AsksRun words × HasInput (RunOn store) input status due)
    ⊎ (AsksPlain words × HasInput IsPlainCountedRun input status due)
    ⊎ ((number : ℕ) × AsksLoad words number × HasLoad number status due)

-- a run hands its store on where it is done
abbrev pub store_at : Status → Seats → Option Seats
store_at Done store = Some store
store_at status store = None

-- the store is there where a run was asked for and done, and nowhere else
abbrev pub HasStore : Type 0 → Status → Option Seats → Type 0
HasStore Asked Done (Some store) = Asked
HasStore Asked Done None = ¬ Asked
HasStore Asked status store = store ≡ None

-- a front of the text of some status was written
abbrev pub ToldPart : (Status → List ℕ → Type 0) → Option (List ℕ) → Option (List ℕ) → Type 0
ToldPart HasText before after = (status : Status) × (due : List ℕ) × HasText status due × AddedPart before after due

-- what became of the text that goes with a status: it was written; or a write failed and a front of
-- it was; or memory ran out
abbrev pub Tells : (Status → List ℕ → Type 0) → Option (List ℕ) → Option (List ℕ) → Type 0 → Status → Type 0
Tells HasText before after WriteRose ReadFault = ⊥
Tells HasText before after WriteRose WriteFault = WriteRose × ToldPart HasText before after
Tells HasText before after WriteRose NoMemory = (after ≡ before) ⊎ ToldPart HasText before after
Tells HasText before after WriteRose status = (due : List ℕ) × HasText status due × Added before after due

-- so it is of a report that was offered
abbrev pub Writes : ReportParts → Option (List ℕ) → Option (List ℕ) → Type 0 → Status → Type 0
Writes report before after WriteRose Done = IsReport report × FitsReport report × Added before after (spelling report)
Writes report before after WriteRose WriteFault =
    WriteRose × IsReport report × AddedPart before after (spelling report)
Writes report before after WriteRose NoMemory = IsReport report × AddedPart before after (spelling report)
Writes report before after WriteRose status = ⊥

-- how a call ends: a script was asked for, a read failed and nothing was written; or a status was told
abbrev pub Ends : Type 0 → (Status → List ℕ → Type 0) → Option (List ℕ) → Option (List ℕ) → Type 0 → Type 0 → Status
    → Type 0
Ends Asked HasText before after ReadRose WriteRose ReadFault = Asked × ReadRose × (after ≡ before)
Ends Asked HasText before after ReadRose WriteRose status = Tells HasText before after WriteRose status

-- the status where a text with this status was offered
abbrev pub status_after : Result (Unit {0}) WriteStop → Status → Status
status_after (Ok done) status = status
status_after (Err stop.Failed) status = WriteFault
status_after (Err stop.NoMemory) status = NoMemory

-- a valid script, read and written without a failure, is done unless memory runs out
abbrev pub Completes : Type 0 → Option (List ℕ) → Type 0 → Type 0 → Status → Type 0
Completes Asked input ReadRose WriteRose status =
    (text : List ℕ) (setting : Setting) (phases : List Phase) → Asked → input ≡ Some text
    → length text ≤ most_bytes → IsScript text setting phases
    → ¬ ReadRose → ¬ WriteRose → (status ≡ Done) ⊎ (status ≡ NoMemory)

-- and so is the script of a number
abbrev pub CompletesLoad : List (String Global) → Type 0 → Status → Type 0
CompletesLoad words WriteRose status =
    (number : ℕ) → AsksLoad words number → ¬ WriteRose → (status ≡ Done) ⊎ (status ≡ NoMemory)

-- a script was read to its end
abbrev pub ReadWhole : {S : Type 0} → (S → Option (List ℕ)) → (S → ℕ) → S → S → Type 0
ReadWhole left faults before after = (bytes : List ℕ) × ReadToEnd left faults before after most_bytes bytes

-- what was read where a script was asked for, by the status: all that there was, or more than a script may have; up to
-- the first read that failed; or as much as there was memory for
abbrev pub ReadBy : {S : Type 0} → (S → Option (List ℕ)) → (S → ℕ) → S → S → Status → Type 0
ReadBy left faults before after Done = ReadWhole left faults before after
ReadBy left faults before after Usage = ⊥
ReadBy left faults before after (BadScript line reason) =
    ReadWhole left faults before after ⊎ ReadPast left faults before after most_bytes
ReadBy left faults before after ReadFault = ReadToFault left faults before after most_bytes
ReadBy left faults before after WriteFault =
    ReadWhole left faults before after ⊎ ReadPast left faults before after most_bytes
ReadBy left faults before after NoMemory = ReadPart left faults before after most_bytes

-- what was read; a source that wasn't asked is as it was
pub record LeavesSource {S : Type 0} (left : S → Option (List ℕ)) (faults : S → ℕ) (Asked : Type 0) (before after : S)
    (status : Status) : Type 0 where
  pub asked : Asked → ReadBy left faults before after status
  pub none : ¬ Asked → after ≡ before
