-- What showing a report answers, and the text that goes with each answer.
use Rattle.std.specs.Prelude.{ℕ, ◌≡◌, ◌<◌, ◌≤◌, ◌⊎◌, List, ◌++◌, length, take, drop, codes, decimal, Option, IfSome, Result, Ok, Err}
use Rattle.pfs_outside.specs.DeviceCalls.{Added}
use Rattle.pfs_outside.specs.WholeStreams.{AddedPart}
use Rattle.pfs_outside.specs.declared.writing.WriteStop.{WriteStop}
use Rattle.pfs_outside.specs.declared.writing.WriteStop.TheVariants as stop
use Rattle.pfs_journal.specs.declared.report.ReportParts.{ReportParts}
use Rattle.pfs_journal.specs.FirstWrongLine.{IsFirstWrong}
use Rattle.pfs_journal.specs.Spelling.{spelling}
use Rattle.pfs_view.specs.declared.viewing.Status.{Status}
use Rattle.pfs_view.specs.Refusals.{IsNoRefusal, refusal_line, refusal_text}
use Rattle.pfs_view.specs.declared.viewing.Status.TheVariants.{Done, BadReport, BadScript, TooLong, ReadFault, WriteFault, NoMemory}

-- how many bytes a report may have
abbrev pub most_bytes : ℕ
most_bytes = 268435456

unfoldable pub wrong_line : ℕ → List ℕ
wrong_line at = codes "this is no report: line " ++ decimal at ++ codes " is wrong\n"

-- the line of a text that is no report
abbrev pub IsWrongAt : ℕ → Status → List ℕ → Type 0
IsWrongAt at (BadReport number) due = (number ≡ at) × (due ≡ wrong_line at)
IsWrongAt at _ due = ⊥

-- the line that a program wrote in place of a report, and what it says
abbrev pub IsExplained : List ℕ → ℕ → ℕ → Status → List ℕ → Type 0
IsExplained script line reason (BadScript first why) due =
    (first ≡ line) × (why ≡ reason) × (due ≡ refusal_text script line reason)
IsExplained script line reason _ due = ⊥

-- the text due of bytes that are no report, and are wrong first at this line
abbrev pub IsRefusedAt : List ℕ → List ℕ → ℕ → Status → List ℕ → Type 0
IsRefusedAt script bytes at (BadReport number) due = (number ≡ at) × (due ≡ wrong_line at) × IsNoRefusal bytes
IsRefusedAt script bytes at (BadScript line reason) due =
    (bytes ≡ refusal_line line reason) × (due ≡ refusal_text script line reason)
IsRefusedAt script bytes at _ due = ⊥

-- the text due of bytes: how the report that they are is shown, or what is told of a script by exactly the lines that
-- tell of one, or of all others their first wrong line
abbrev pub HasView : (List ℕ → ReportParts → List ℕ) → List ℕ → List ℕ → Status → List ℕ → Type 0
HasView shown script bytes Done due = (report : ReportParts) × (bytes ≡ spelling report) × (due ≡ shown script report)
HasView shown script bytes (BadReport at) due =
    IsFirstWrong bytes at × (due ≡ wrong_line at) × IsNoRefusal bytes
HasView shown script bytes (BadScript line reason) due =
    (bytes ≡ refusal_line line reason) × (due ≡ refusal_text script line reason)
HasView shown script bytes _ due = ⊥

-- a front of the text of some status was written
abbrev pub ToldPart : (Status → List ℕ → Type 0) → Option (List ℕ) → Option (List ℕ) → Type 0
ToldPart HasText before after = (status : Status) × (due : List ℕ) × HasText status due × AddedPart before after due

abbrev pub Tells : (Status → List ℕ → Type 0) → Option (List ℕ) → Option (List ℕ) → Type 0 → Status → Type 0
Tells HasText before after WriteRose TooLong = ⊥
Tells HasText before after WriteRose ReadFault = ⊥
Tells HasText before after WriteRose WriteFault = WriteRose × ToldPart HasText before after
Tells HasText before after WriteRose NoMemory = (after ≡ before) ⊎ ToldPart HasText before after
Tells HasText before after WriteRose status = (due : List ℕ) × HasText status due × Added before after due

-- of a source with these bytes left, where it tells them: so many of a script come first, all where there are fewer
abbrev pub HasInput : (List ℕ → ReportParts → List ℕ) → ℕ → Option (List ℕ) → Status → List ℕ → Type 0
HasInput shown count input status due = (bytes : List ℕ) × IfSome input (λ text. bytes ≡ text)
    × (length bytes ≤ most_bytes) × HasView shown (take count bytes) (drop count bytes) status due

abbrev pub Ends : (List ℕ → ReportParts → List ℕ) → ℕ → Option (List ℕ) → Option (List ℕ) → Option (List ℕ) → Type 0 → Type 0 → Status → Type 0
Ends shown count input before after ReadRose WriteRose ReadFault = ReadRose × (after ≡ before)
Ends shown count input before after ReadRose WriteRose TooLong =
    IfSome input (λ text. most_bytes < length text) × (after ≡ before)
Ends shown count input before after ReadRose WriteRose status =
    Tells (HasInput shown count input) before after WriteRose status

-- the exit status: 0 where the report was written, 2 where there is none, 3 to 5 for a failure
abbrev pub exit_number : Status → ℕ
exit_number Done = 0
exit_number (BadReport at) = 2
exit_number (BadScript line reason) = 2
exit_number TooLong = 2
exit_number ReadFault = 3
exit_number WriteFault = 4
exit_number NoMemory = 5

-- the status where a text with this status was offered
abbrev pub status_after : Result (Unit {0}) WriteStop → Status → Status
status_after (Ok done) status = status
status_after (Err stop.Failed) status = WriteFault
status_after (Err stop.NoMemory) status = NoMemory
