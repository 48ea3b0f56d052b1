use Rattle.std.proofs.Common.{◌-◌, ◌≤◌, inl, inr, arith, slice_index, ap, sym, subst, ◌∙◌, List, ℕ}
use Rattle.pfs_levels.specs.PlainStore.{IsFresh, slot_at}
use Rattle.pfs_levels.proofs.PlainCalls.{at_ring, at_late, ring_low}
use Rattle.pfs_levels.proofs.plain.PlainRowsRows.ring_try.Goals.{then-row-ge-LONG_HISTORY+then-is_allocated+else-held-content, else-row-ge-LONG_HISTORY, else-row-ge-LONG_HISTORY-via-then-row-ge-LONG_HISTORY+else-is_allocated, else-row-ge-LONG_HISTORY-via-else-row-ge-LONG_HISTORY}
use Rattle.pfs_levels.proofs.plain.PlainRowsRows.ring_try.Goals as goal

pub returns-then-held-content-clause-call : goal.returns-then-held-content-clause-call
returns-then-held-content-clause-call c =
    let held = ap (λ (z : List ℕ). slice_index z 15) c.content.ensures in
    λ start calls at. at_late _ _ _ start.flags calls c.args.row (slice_index c.content.result.now 15 - 1) c.version.result c.args.content.now c.requires.ring (ring_low c.args.row c.args.content.now c.requires.ring)
    (sym c.is_allocated.ensures ∙ c.if-is_allocated.true) c.if-row-ge-LONG_HISTORY.true (sym held ∙ omega (arith, c.if-held-content.true)) (omega (arith, c.if-held-content.true)) c.version.ensures at

pub returns-clause-call : goal.returns-clause-call
returns-clause-call c =
    let newer : IsFresh c.args.row (slot_at c.args.self.now.slots c.args.row) c.args.content.now = λ far. elim c.if-row-ge-LONG_HISTORY.branch [
      | then-row-ge-LONG_HISTORY+then-is_allocated+else-held-content w ↦ inr (subst (λ (z : List ℕ). slice_index z 15 ≤ slice_index c.args.content.now 15) w.content.ensures w.if-held-content.false)
      | else-row-ge-LONG_HISTORY w ↦ elim w.else-row-ge-LONG_HISTORY.branch [
        | else-row-ge-LONG_HISTORY-via-then-row-ge-LONG_HISTORY+else-is_allocated v ↦ inl (sym v.is_allocated.ensures ∙ v.if-is_allocated.false)
        | else-row-ge-LONG_HISTORY-via-else-row-ge-LONG_HISTORY v ↦ absurd (omega (arith, v.if-row-ge-LONG_HISTORY.false))
      ]
    ] in
    λ start calls at. at_ring _ _ _ _ start.flags calls c.args.row c.version-version.result c.args.content.now c.requires.ring (ring_low c.args.row c.args.content.now c.requires.ring) c.args.self.now.room.slots_wide
    c.requires.away c.version-version.ensures newer c.publish.ensures at
