use Rattle.std.proofs.Common.{◌≡◌, ◌*◌, ◌++◌}
use Rattle.std.specs.List.{flat_map, range_with_len}
use Rattle.pfs_gen.specs.Draws.{state_after}
use Rattle.pfs_gen.specs.GeneratedScript.{session_text}
use Rattle.pfs_gen.proofs.script.put_sessions.Given as goal

abbrev pub invariant-loop-below : goal.invariant-loop-below
invariant-loop-below l = (l.out.items ≡ l.fn.out.items ++ flat_map (session_text l.number) (range_with_len 1 l.below)) × (l.state ≡ state_after l.number (4 * (500 * l.below)))
