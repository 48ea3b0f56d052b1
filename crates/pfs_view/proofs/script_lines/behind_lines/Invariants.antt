use Rattle.std.proofs.Common.{◌≡◌, drop}
use Rattle.pfs_view.specs.ScriptLines.{behind_lines}
use Rattle.pfs_view.proofs.script_lines.behind_lines.Given as goal

abbrev pub invariant-loop-place : goal.invariant-loop-place
invariant-loop-place l = behind_lines l.left (drop l.place l.text) ≡ behind_lines l.count l.text
