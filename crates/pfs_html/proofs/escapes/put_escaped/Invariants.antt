use Rattle.std.proofs.Common.{◌≡◌, ◌++◌, take}
use Rattle.std.specs.List.{flat_map}
use Rattle.pfs_html.specs.Escapes.{escaped_byte}
use Rattle.pfs_html.proofs.escapes.put_escaped.Given as goal

abbrev pub invariant-loop-byte : goal.invariant-loop-byte
invariant-loop-byte l = l.out.items ≡ l.initial.out.items ++ flat_map escaped_byte (take l.byte-index l.text)
