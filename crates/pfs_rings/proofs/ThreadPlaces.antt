-- The places of a thread are side by side, and no row is two of them.
use Rattle.std.proofs.Common.{ℕ, ◌≡◌, ◌<◌, ◌≤◌, ◌+◌, ◌*◌, Option, Some, None, sym, ap, ◌∙◌, arith}
use Rattle.pfs_event.specs.declared.kind.EventKind.{EventKind}
use Rattle.pfs_event.specs.declared.kind.EventKind.TheVariants.{Wait, Stage, Statement, Transaction}
use Rattle.pfs_model.specs.Rings.{ring_number, current_row, history_row}
use Rattle.pfs_rings.specs.declared.rings.Ring.TheVariants.{Current, History, Long}
use Rattle.pfs_rings.specs.RingPlaces.{depths, WithinLaw, ApartLaw}

some_same : {x y : ℕ} → Some x ≡ Some y → x ≡ y
some_same {x} {y} e = ap or_zero e where
  or_zero : Option ℕ → ℕ
  or_zero None = 0
  or_zero (Some n) = n

-- the number of a place among its thread's
abbrev current_at : EventKind → ℕ → ℕ
current_at Wait depth = depth
current_at Stage depth = 4
current_at Statement depth = 5 + depth
current_at Transaction depth = 15

abbrev history_at : EventKind → ℕ → ℕ
history_at kind place = 16 + 10 * ring_number kind + place

current_is : (thread : ℕ) (kind : EventKind) (depth : ℕ) → current_row thread kind depth ≡ 8450 + 56 * thread + current_at kind depth
current_is thread Wait depth = omega arith
current_is thread Stage depth = omega arith
current_is thread Statement depth = omega arith
current_is thread Transaction depth = omega arith

history_is : (thread : ℕ) (kind : EventKind) (place : ℕ) → place < 10 → history_row thread (ring_number kind) place ≡ 8450 + 56 * thread + history_at kind place
history_is thread kind place low = omega (arith, low)

current_low : (kind : EventKind) (depth : ℕ) → depth < depths kind → current_at kind depth < 16
current_low Wait depth low = omega (arith, low)
current_low Stage depth low = omega arith
current_low Statement depth low = omega (arith, low)
current_low Transaction depth low = omega arith

few : (kind : EventKind) → ring_number kind < 4
few Wait = omega arith
few Stage = omega arith
few Statement = omega arith
few Transaction = omega arith

history_high : (kind : EventKind) (place : ℕ) → place < 10 → (16 ≤ history_at kind place) × (history_at kind place < 56)
history_high kind place low = (omega arith, omega (arith, low, few kind))

-- of two rows that are the same the threads are, and the places
threads : (t u p q : ℕ) → p < 56 → q < 56 → 8450 + 56 * t + p ≡ 8450 + 56 * u + q → t ≡ u
threads t u p q low other same = omega (arith, low, other, same)

numbers : (t u p q : ℕ) → p < 56 → q < 56 → 8450 + 56 * t + p ≡ 8450 + 56 * u + q → p ≡ q
numbers t u p q low other same = omega (arith, low, other, same)

current_same : (one other : EventKind) (d e : ℕ) → d < depths one → e < depths other → current_at one d ≡ current_at other e
    → (t : ℕ) → Current t one d ≡ Current t other e
current_same Wait Wait d e low small same t = ap (Current t Wait) (omega (arith, low, small, same))
current_same Wait Stage d e low small same t = absurd (omega (arith, low, small, same))
current_same Wait Statement d e low small same t = absurd (omega (arith, low, small, same))
current_same Wait Transaction d e low small same t = absurd (omega (arith, low, small, same))
current_same Stage Wait d e low small same t = absurd (omega (arith, low, small, same))
current_same Stage Stage d e low small same t = ap (Current t Stage) (omega (arith, low, small, same))
current_same Stage Statement d e low small same t = absurd (omega (arith, low, small, same))
current_same Stage Transaction d e low small same t = absurd (omega (arith, low, small, same))
current_same Statement Wait d e low small same t = absurd (omega (arith, low, small, same))
current_same Statement Stage d e low small same t = absurd (omega (arith, low, small, same))
current_same Statement Statement d e low small same t = ap (Current t Statement) (omega (arith, low, small, same))
current_same Statement Transaction d e low small same t = absurd (omega (arith, low, small, same))
current_same Transaction Wait d e low small same t = absurd (omega (arith, low, small, same))
current_same Transaction Stage d e low small same t = absurd (omega (arith, low, small, same))
current_same Transaction Statement d e low small same t = absurd (omega (arith, low, small, same))
current_same Transaction Transaction d e low small same t = ap (Current t Transaction) (omega (arith, low, small, same))

history_same : (one other : EventKind) (p q : ℕ) → p < 10 → q < 10 → history_at one p ≡ history_at other q
    → (t : ℕ) → History t one p ≡ History t other q
history_same Wait Wait p q low small same t = ap (History t Wait) (omega (arith, low, small, same))
history_same Wait Stage p q low small same t = absurd (omega (arith, low, small, same))
history_same Wait Statement p q low small same t = absurd (omega (arith, low, small, same))
history_same Wait Transaction p q low small same t = absurd (omega (arith, low, small, same))
history_same Stage Wait p q low small same t = absurd (omega (arith, low, small, same))
history_same Stage Stage p q low small same t = ap (History t Stage) (omega (arith, low, small, same))
history_same Stage Statement p q low small same t = absurd (omega (arith, low, small, same))
history_same Stage Transaction p q low small same t = absurd (omega (arith, low, small, same))
history_same Statement Wait p q low small same t = absurd (omega (arith, low, small, same))
history_same Statement Stage p q low small same t = absurd (omega (arith, low, small, same))
history_same Statement Statement p q low small same t = ap (History t Statement) (omega (arith, low, small, same))
history_same Statement Transaction p q low small same t = absurd (omega (arith, low, small, same))
history_same Transaction Wait p q low small same t = absurd (omega (arith, low, small, same))
history_same Transaction Stage p q low small same t = absurd (omega (arith, low, small, same))
history_same Transaction Statement p q low small same t = absurd (omega (arith, low, small, same))
history_same Transaction Transaction p q low small same t = ap (History t Transaction) (omega (arith, low, small, same))

pub within : WithinLaw
within (Current thread kind depth) row number ring at of =
    let here : row ≡ 8450 + 56 * number + current_at kind depth = sym (some_same at) ∙ (current_is thread kind depth
    ∙ ap (λ t. 8450 + 56 * t + current_at kind depth) (some_same of)) in
    (omega (arith, here), omega (arith, here, current_low kind depth ring.1))
within (History thread kind place) row number ring at of =
    let here : row ≡ 8450 + 56 * number + history_at kind place = sym (some_same at) ∙ (history_is thread kind place ring.1
    ∙ ap (λ t. 8450 + 56 * t + history_at kind place) (some_same of)) in
    (omega (arith, here), omega (arith, here, (history_high kind place ring.1).1))
within (Long kind) row number ring at of = absurd (cc (at))

pub apart : ApartLaw
apart (Current t one d) (Current u other e) row ring place at same =
    let rows : 8450 + 56 * t + current_at one d ≡ 8450 + 56 * u + current_at other e = sym (current_is t one d)
    ∙ (some_same at ∙ (sym (some_same same) ∙ current_is u other e)) in
    let low : current_at one d < 56 = omega (arith, current_low one d ring.1) in
    let small : current_at other e < 56 = omega (arith, current_low other e place.1) in
    current_same one other d e ring.1 place.1 (numbers t u _ _ low small rows) t
    ∙ ap (λ thread. Current thread other e) (threads t u _ _ low small rows)
apart (Current t one d) (History u other q) row ring place at same =
    let rows : 8450 + 56 * t + current_at one d ≡ 8450 + 56 * u + history_at other q = sym (current_is t one d)
    ∙ (some_same at ∙ (sym (some_same same) ∙ history_is u other q place.1)) in
    let low : current_at one d < 16 = current_low one d ring.1 in
    absurd (omega (arith, low, numbers t u _ _ (omega (arith, low)) (history_high other q place.1).1 rows, (history_high other q place.1).0))
apart (History t one p) (Current u other e) row ring place at same =
    let rows : 8450 + 56 * t + history_at one p ≡ 8450 + 56 * u + current_at other e = sym (history_is t one p ring.1)
    ∙ (some_same at ∙ (sym (some_same same) ∙ current_is u other e)) in
    let low : current_at other e < 16 = current_low other e place.1 in
    absurd (omega (arith, low, numbers t u _ _ (history_high one p ring.1).1 (omega (arith, low)) rows, (history_high one p ring.1).0))
apart (History t one p) (History u other q) row ring place at same =
    let rows : 8450 + 56 * t + history_at one p ≡ 8450 + 56 * u + history_at other q = sym (history_is t one p ring.1)
    ∙ (some_same at ∙ (sym (some_same same) ∙ history_is u other q place.1)) in
    let low : history_at one p < 56 = (history_high one p ring.1).1 in
    let small : history_at other q < 56 = (history_high other q place.1).1 in
    history_same one other p q ring.1 place.1 (numbers t u _ _ low small rows) t
    ∙ ap (λ thread. History thread other q) (threads t u _ _ low small rows)
apart (Long kind) other row ring place at same = absurd (cc (at))
apart (Current t one d) (Long kind) row ring place at same = absurd (cc (same))
apart (History t one p) (Long kind) row ring place at same = absurd (cc (same))
