use Rattle.std.proofs.Common.{◌≡◌, ◌++◌, drop, take}
use Rattle.pfs_view.specs.ScriptLines.{first_line}
use Rattle.pfs_view.proofs.script_lines.first_line.Given as goal

abbrev pub invariant-loop-place : goal.invariant-loop-place
invariant-loop-place l = first_line l.text ≡ take l.place l.text ++ first_line (drop l.place l.text)
