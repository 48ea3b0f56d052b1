use Rattle.std.proofs.Common.{◌≡◌, ◌++◌, take}
use Rattle.std.specs.List.{flat_map}
use Rattle.pfs_view.specs.ScriptLines.{printed_byte}
use Rattle.pfs_view.proofs.script_lines.put_printed.Given as goal

abbrev pub invariant-loop-byte : goal.invariant-loop-byte
invariant-loop-byte l = l.out.items ≡ l.initial.out.items ++ flat_map printed_byte (take l.byte-index l.text)
