use Rattle.std.proofs.Common.{refl, ap, length, arith, rules, inl, inr}
use Rattle.pfs_outside.specs.MemoryDevices.{Writing}
use Rattle.pfs_outside.proofs.memory.MemorySinkSink.write.Goals as goal
use Rattle.pfs_outside.proofs.memory.MemorySinkSink.write.Goals.{then-n-eq0-via-then-n-eq0, then-n-eq0-via-else-n-eq0+then-contains}

-- a refusal is of a full sink, or of a write that is to fail
pub returns-then-n-eq0-clause-fails : goal.returns-then-n-eq0-clause-fails
returns-then-n-eq0-clause-fails c =
    let room = ap (λ (s : Writing). s.room) c.self.view_is in
    let text = ap (λ (s : Writing). length s.text) c.self.view_is in
    (λ _. elim c.then-n-eq0.branch [ then-n-eq0-via-then-n-eq0 w ↦ inr (omega arith) | then-n-eq0-via-else-n-eq0+then-contains w ↦ inl (search rules) ], λ _. refl)
