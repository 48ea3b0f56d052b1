-- How far the lines of a block are written out.
use Rattle.std.specs.Prelude.{◌≡◌, List, ◌++◌, map, length, Option, Some, None}
use Rattle.pfs_model.specs.declared.lines.Line.{Line}
use Rattle.pfs_script.specs.declared.blocks.BlockLine.{BlockLine}
use Rattle.pfs_script.specs.Marks.{written_from}
use Rattle.pfs_runs.specs.ScriptLines.{line_in}
use Rattle.pfs_check_lines.specs.declared.repeats.Repeat.{Repeat}

-- the whole has these lines first, the last of them those of a repeat so far, and then what the rest makes
pub record IsRepeated (whole : List Line) (repeat : Repeat) (lines : List Line) (rest : List BlockLine) : Type 0 where
  pub front : List Line
  pub body : List BlockLine
  pub begins : length front ≡ repeat.start
  pub lines_are : lines ≡ front ++ map line_in body
  pub ahead : front ++ map line_in (written_from (Some (record { times = repeat.times; body = body })) rest) ≡ whole

abbrev pub IsWritten : List Line → Option Repeat → List Line → List BlockLine → Type 0
IsWritten whole None lines rest = lines ++ map line_in (written_from None rest) ≡ whole
IsWritten whole (Some repeat) lines rest = IsRepeated whole repeat lines rest
