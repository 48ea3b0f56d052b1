-- How far the administration lines of a block are written out.
use Rattle.std.specs.Prelude.{ℕ, ◌≡◌, List, ◌++◌, length, Option, Some, None}
use Rattle.std.specs.List.{flat_map}
use Rattle.pfs_admin.specs.declared.changes.Change.{Change}
use Rattle.pfs_runs.specs.ScriptLines.{changes_on}
use Rattle.pfs_script.specs.declared.blocks.BlockLine.{BlockLine}
use Rattle.pfs_script.specs.Marks.{written_from}
use Rattle.pfs_check_changes.specs.ActionNumbers.{StandFor}
use Rattle.pfs_check_changes.specs.declared.repeats.Repeat.{Repeat}

-- the whole has these changes first, the last of them those of a repeat so far, and then what the rest makes
pub record IsRepeated (whole : List Change) (repeat : Repeat) (made : List Change) (rest : List BlockLine) : Type 0
  where
    pub front : List Change
    pub body : List BlockLine
    pub begins : length front ≡ repeat.start
    pub made_are : made ≡ front ++ flat_map changes_on body
    pub ahead : front ++ flat_map changes_on (written_from (Some (record { times = repeat.times; body = body })) rest)
        ≡ whole

abbrev pub IsWritten : List Change → Option Repeat → List Change → List BlockLine → Type 0
IsWritten whole None made rest = made ++ flat_map changes_on (written_from None rest) ≡ whole
IsWritten whole (Some repeat) made rest = IsRepeated whole repeat made rest

-- so of the changes for which these numbers stand
pub record IsWrittenBy (whole : List Change) (repeat : Option Repeat) (kept : List Change) (numbers : List ℕ)
    (rest : List BlockLine) : Type 0 where
  pub made : List Change
  pub stand : StandFor kept numbers made
  pub written : IsWritten whole repeat made rest
