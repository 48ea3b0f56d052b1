use Rattle.std.proofs.Common.{ℕ, ◌≡◌, ◌+◌, ◌*◌, ◌++◌}
use Rattle.pfs_gen.specs.Draws.{state_after}
use Rattle.pfs_gen.specs.GeneratedScript.{units_text}
use Rattle.pfs_gen.proofs.units.put_units.Given as goal

abbrev pub invariant-loop-place : goal.invariant-loop-place
invariant-loop-place l = (number unit : ℕ) → l.state ≡ state_after number (4 * unit)
    → (l.out.items ≡ l.fn.out.items ++ units_text number unit l.place) × (l.next ≡ state_after number (4 * (unit + l.place)))
