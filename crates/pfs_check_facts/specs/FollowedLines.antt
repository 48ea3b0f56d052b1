-- How far a session has followed the lines of a block.
use Rattle.std.specs.Prelude.{ℕ, ◌≡◌, ◌-◌, ◌≤◌, List, ◌++◌, take, drop, Option, Some, None}
use Rattle.pfs_script.specs.Marks.{Repeated, written_from}
use Rattle.pfs_script.specs.declared.blocks.BlockLine.{BlockLine}
use Rattle.pfs_check_facts.specs.declared.blocks.Repeat.{Repeat}
use Rattle.pfs_check_facts.specs.declared.moments.Course.{Course}
use Rattle.pfs_check_facts.specs.Moments.{IsCourseOf}

abbrev pub BeginsBy : ℕ → Option Repeat → Type 0
BeginsBy place None = Unit {0}
BeginsBy place (Some repeat) = repeat.start ≤ place

-- the lines so far of a repeat that isn't done
abbrev pub repeated_to : List BlockLine → ℕ → Option Repeat → Option Repeated
repeated_to said place None = None
repeated_to said place (Some repeat) =
    Some (record { times = repeat.times; body = take (place - repeat.start) (drop repeat.start said) })

-- behind the lines that were followed the whole has what the lines from this place on make
pub record IsUpTo (said whole : List BlockLine) (course : Course) (place : ℕ) (repeat : Option Repeat) : Type 0 where
  pub done : List BlockLine
  pub are : IsCourseOf done course
  pub begun : BeginsBy place repeat
  pub ahead : done ++ written_from (repeated_to said place repeat) (drop place said) ≡ whole
