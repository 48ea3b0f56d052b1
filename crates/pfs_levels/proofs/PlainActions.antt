-- A plain store's actions: row 0 counts them, and is in hand inside one.
use Rattle.std.proofs.Common.{ℕ, ◌≡◌, ◌<◌, ◌+◌, cond, false, true, List, [], ◌∷◌, None, IsSome, slice_set, length, refl, ap, sym, ◌∙◌, arith, ne_eqb, length-append}
use Rattle.pfs_board.specs.declared.view.Label.{Label}
use Rattle.pfs_levels.specs.declared.answers.Added.TheVariants.{Counted, Held}
use Rattle.pfs_levels.specs.declared.answers.RingPut.TheVariants.{Done, Busy, Late}
use Rattle.pfs_levels.specs.declared.answers.Word.{Word}
use Rattle.pfs_levels.specs.declared.plain.Slot.{Slot}
use Rattle.pfs_levels.specs.Calls.{Call, Adds, Rings, Reads, Loads, Draws, Takes, Puts, Frees, Sets, Enters, Leaves, Meets, label_in}
use Rattle.pfs_levels.specs.PlainStore.{Merges, Becomes, Holds, Renews, Releases, Op, op, ops_of, slot, slot_by, slot_after, slot_at, in_hand, AllAnswer, IsAt, labels_after}
use Rattle.pfs_levels.proofs.PlainCalls.{at_row, here, idle, taken, ring_high}

-- something done to another row
pub elsewhere : (o : Op) (os : List Op) → 0 < o.row → slot_after (o ∷ os) 0 ≡ slot_after os 0
unfolding slot_after
elsewhere o os up = ap (λ b. cond b (slot_by o.effect (slot_after os 0)) (slot_after os 0)) (ne_eqb o.row 0 (λ z. absurd (omega arith)))

-- row 0's version is the number of the actions that ended
pub labels_count : (flags : List ℕ) (calls : List Call) → AllAnswer flags calls → length (labels_after calls) ≡ (slot_after (ops_of calls) 0).version
unfolding labels_after slot_after ops_of
labels_count flags [] a = refl
labels_count flags (Adds row amount (Counted r v) ∷ calls) a = labels_count flags calls a.1 ∙ sym (ap (λ (s : Slot). s.version) (elsewhere (op r (Merges amount)) (ops_of calls) (omega (arith, a.0.0.0, a.0.1))))
labels_count flags (Adds row amount (Held r v w) ∷ calls) a = absurd a.0
labels_count flags (Rings row content (Done v) ∷ calls) a = labels_count flags calls a.1 ∙ sym (ap (λ (s : Slot). s.version) (elsewhere (op row (Becomes content)) (ops_of calls) (ring_high row content a.0.0)))
labels_count flags (Rings row content (Busy v w) ∷ calls) a = absurd a.0
labels_count flags (Rings row content (Late t v) ∷ calls) a = labels_count flags calls a.1
labels_count flags (Reads row seen ∷ calls) a = labels_count flags calls a.1
labels_count flags (Loads w v found ∷ calls) a = labels_count flags calls a.1
labels_count flags (Draws kind ticket ∷ calls) a = labels_count flags calls a.1
labels_count flags (Meets versions ∷ calls) a = labels_count flags calls a.1
labels_count flags (Takes row v found ∷ calls) a = labels_count flags calls a.1 ∙ sym (ap (λ (s : Slot). s.version) (elsewhere (op row Holds) (ops_of calls) a.0.0.0))
labels_count flags (Puts row content v ∷ calls) a = labels_count flags calls a.1 ∙ sym (ap (λ (s : Slot). s.version) (elsewhere (op row (Becomes content)) (ops_of calls) a.0.0.0))
labels_count flags (Frees row v ∷ calls) a = labels_count flags calls a.1 ∙ sym (ap (λ (s : Slot). s.version) (elsewhere (op row Releases) (ops_of calls) a.0.0.0))
labels_count flags (Sets w to v ∷ calls) a = labels_count flags calls a.1
labels_count flags (Enters label labels ∷ calls) a = labels_count flags calls a.1
labels_count flags (Leaves ∷ calls) a = length-append (labels_after calls) (label_in calls ∷ []) ∙ ap (λ n. n + 1) (labels_count flags calls a.1)

pub at_enter : (slots after : List Slot) (words : List Word) (tickets flags : List ℕ) (calls : List Call) (label : Label) (version : ℕ) → length slots ≡ 14242 → in_hand (slot_at slots 0) ≡ None → version ≡ (slot_at slots 0).version
    → after ≡ slice_set slots 0 (slot_by Holds (slot_at slots 0)) → IsAt slots words tickets flags calls
    → (labels : List Label) × ((version + 1 ≡ length labels + 1) × IsAt after words tickets flags (Enters label labels ∷ calls))
at_enter slots after words tickets flags calls label version wide free read is at = (
  labels_after calls,
  (
    ap (λ n. n + 1) (here (λ s. s.version) slots words tickets flags calls 0 version (omega arith) read at ∙ sym (labels_count flags calls at.answers)),
    at_row slots after words tickets flags calls (Enters label (labels_after calls)) 0 Holds refl refl refl (omega arith) wide is
        (idle slots words tickets flags calls 0 (omega arith) free at, refl) at,
  ),
)

pub at_leave : (slots after : List Slot) (words : List Word) (tickets flags : List ℕ) (calls : List Call) (content : List ℕ) → length slots ≡ 14242 → IsSome (in_hand (slot_at slots 0)) → content ≡ (slot_at slots 0).content
    → after ≡ slice_set slots 0 (slot_by (Becomes content) (slot_at slots 0)) → IsAt slots words tickets flags calls → IsAt after words tickets flags (Leaves ∷ calls)
at_leave slots after words tickets flags calls content wide mine was is at =
    at_row slots after words tickets flags calls Leaves 0 Renews refl refl refl (omega arith) wide
    (is ∙ ap (λ z. slice_set slots 0 (slot ((slot_at slots 0).version + 1) false true z)) was)
    (taken slots words tickets flags calls 0 (omega arith) mine at) at
