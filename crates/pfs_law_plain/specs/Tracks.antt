-- What a session's steps tell of it behind lines of a script, and that they tell the script's facts of its events.
use Rattle.std.specs.Prelude.{ℕ, ◌≡◌, ◌%◌, ◌^◌, List, [], ◌∷◌, ◌++◌, length, map, take, slice_get}
use Rattle.std.specs.List.{sum_by}
use Rattle.pfs_law_session.specs.Amounts.{Going, Clocked, at_first, all_stepped, AreFacts}
use Rattle.pfs_runs.specs.ScriptLines.{facts_if}
use Rattle.pfs_script.specs.declared.blocks.BlockLine.{BlockLine}
use Rattle.pfs_script.specs.Brackets.{Opening, brackets_of, open_in, kinds_of}
use Rattle.pfs_script.specs.EventRules.{AreEvents}
use Rattle.pfs_script.specs.Events.{Event, time_of}
use Rattle.pfs_script.specs.Marks.{Mark, mark_of}
use Rattle.pfs_law_plain.specs.LineSteps.{steps_on}

abbrev pub marks_of : List BlockLine → List Mark
marks_of lines = map mark_of lines

-- how many events lines open, and how many picoseconds they let pass
abbrev pub opened_by : List BlockLine → ℕ
opened_by lines = length (brackets_of (marks_of lines))

abbrev pub passed_in : List BlockLine → ℕ
passed_in lines = sum_by time_of lines

-- an event that is open behind lines, as steps tell it: how many events its session opened before it, its kind, and the
-- clock there, modulo 2^64
abbrev pub going_at : List BlockLine → Opening → Going
going_at lines opening = record {
  index = opened_by (take opening.place lines);
  kind = opening.kind;
  start = passed_in (take opening.place lines) % 2 ^ 64;
}

-- a session's steps tell of it what these lines make of it: the clock, how many events it has opened, and which are
-- open
pub record Tracks (lines : List BlockLine) (clocked : Clocked) : Type 0 where
  pub clock : clocked.clock ≡ passed_in lines % 2 ^ 64
  pub begun : clocked.begun ≡ opened_by lines
  pub going : clocked.going ≡ map (going_at lines) (open_in (marks_of lines))

abbrev pub FirstLaw : Type 0
FirstLaw = Tracks [] at_first

-- what is told at a line, where these are the events of all lines of the session
pub record IsTold (events : List Event) (done : List BlockLine) (line : BlockLine) (clocked : Clocked) : Type 0 where
  pub facts : AreFacts (λ index. facts_if (slice_get events index)) clocked
      (steps_on (kinds_of (open_in (marks_of done))) line)
  pub tracks : Tracks (done ++ line ∷ [])
      (all_stepped clocked (steps_on (kinds_of (open_in (marks_of done))) line))

-- of each line, behind those before it and before those behind it
abbrev pub LineLaw : Type 0
LineLaw = (events : List Event) (done : List BlockLine) (line : BlockLine) (more : List BlockLine) (clocked : Clocked)
    → AreEvents (done ++ line ∷ more) events → Tracks done clocked → IsTold events done line clocked
