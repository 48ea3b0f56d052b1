-- The lines at which events open or end.
use Rattle.std.specs.Prelude.{ℕ, ◌≡◌, ◌+◌, ◌%◌, ◌^◌, List, [], ◌∷◌, ◌++◌, Option, Some, None}
use Rattle.std.specs.List.{sum_by}
use Rattle.pfs_script.specs.Events.{numbers_on, time_of}
use Rattle.pfs_script.specs.Marks.{Mark, Opens, Ends, EndsStage, Passes, mark_of}
use Rattle.pfs_script.specs.declared.blocks.BlockLine.{BlockLine}
use Rattle.pfs_check_facts.specs.declared.moments.Course.{Course}
use Rattle.pfs_check_facts.specs.declared.moments.Moment.{Moment}
use Rattle.pfs_check_facts.specs.declared.moments.Turn.{Turn}
use Rattle.pfs_check_facts.specs.declared.moments.Turn.TheVariants as turns

-- what a mark does to events, and as a mark again
abbrev pub turn_in : Mark → Option Turn
turn_in (Opens kind) = Some (turns.Opens kind)
turn_in Ends = Some turns.Ends
turn_in EndsStage = Some turns.EndsStage
turn_in Passes = None

abbrev pub mark_in : Turn → Mark
mark_in (turns.Opens kind) = Opens kind
mark_in turns.Ends = Ends
mark_in turns.EndsStage = EndsStage

abbrev pub turn_on : BlockLine → Option Turn
turn_on line = turn_in (mark_of line)

abbrev pub moment_with : ℕ → BlockLine → Option Turn → List Moment
moment_with clock line None = []
moment_with clock line (Some turn) = record { turn = turn; clock = clock; numbers = numbers_on line } ∷ []

-- those of lines, where the clock stands here before the first
abbrev pub moments_from : ℕ → List BlockLine → List Moment
moments_from clock [] = []
moments_from clock (line ∷ lines) =
    moment_with (clock % 2 ^ 64) line (turn_on line) ++ moments_from (clock + time_of line) lines

-- a session has followed these lines
pub record IsCourseOf (lines : List BlockLine) (course : Course) : Type 0 where
  pub clock : course.clock ≡ sum_by time_of lines % 2 ^ 64
  pub moments : course.moments.items ≡ moments_from 0 lines
