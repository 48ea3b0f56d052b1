-- Places of a ring that nobody wrote are found as they opened, and released.
use Rattle.std.proofs.Common.{ℕ, zero, suc, ◌≡◌, ◌≤◌, ◌+◌, ◌==◌, Bool, true, false, cond, List, [], ◌∷◌, ◌++◌, eq-eqb, ne_eqb, refl, ap, sym, ◌∙◌, arith}
use Rattle.std.specs.Prelude.{nat_lt}
use Rattle.std.proofs.lemmas.Bool.{false≢true, ltb-true}
use Rattle.pfs_levels.specs.Calls.{Call, Frees, Takes, IsRow}
use Rattle.pfs_levels.specs.RowWords.{opening_content}
use Rattle.pfs_levels.specs.PlainStore.{AllAnswer, Holds, Op, Releases, opening_slot, ops_of, slot_after, slot_by}
use Rattle.pfs_levels.specs.declared.plain.Slot.{Slot}

-- so many of the first slot's, newest first
abbrev pub freed_calls : ℕ → List Call
freed_calls zero = []
freed_calls (suc n) = Frees (8450 + n) 0 ∷ Takes (8450 + n) 0 (opening_content (8450 + n)) ∷ freed_calls n

-- nothing was done to a ring
abbrev pub are_low : List Op → Bool
are_low [] = true
are_low (o ∷ os) = cond (nat_lt o.row 8450) (are_low os) false

low_first : (row : ℕ) (o : Op) (os : List Op) (b : Bool) → nat_lt o.row 8450 ≡ b → 8450 ≤ row → cond b (are_low os) false ≡ true → (are_low os ≡ true → slot_after os row ≡ opening_slot row)
    → slot_after (o ∷ os) row ≡ opening_slot row
unfolding slot_after
low_first row o os true e h l rest =
    ap (λ z. cond z (slot_by o.effect (slot_after os row)) (slot_after os row)) (ne_eqb o.row row (λ q. absurd (omega (arith, q, ltb-true o.row 8450 e, h)))) ∙ rest l
low_first row o os false e h l rest = absurd (false≢true l)

untouched : (row : ℕ) (os : List Op) → 8450 ≤ row → are_low os ≡ true → slot_after os row ≡ opening_slot row
unfolding slot_after
untouched row [] h l = refl
untouched row (o ∷ os) h l = low_first row o os (nat_lt o.row 8450) refl h l (λ low. untouched row os h low)

-- the places above them
others_stay : (row n : ℕ) (rest : List Call) → 8450 + n ≤ row → slot_after (ops_of (freed_calls n ++ rest)) row ≡ slot_after (ops_of rest) row
unfolding ops_of slot_after
others_stay row zero rest h = refl
others_stay row (suc n) rest h =
    let off : ((8450 + n) == row) ≡ false = ne_eqb (8450 + n) row (λ q. absurd (omega (arith, q, h))) in
    let before : Slot = slot_after (ops_of (freed_calls n ++ rest)) row in
    let held : Slot = cond ((8450 + n) == row) (slot_by Holds before) before in
    ap (λ z. cond z (slot_by Releases held) held) off ∙ (ap (λ z. cond z (slot_by Holds before) before) off ∙ others_stay row n rest (omega (arith, h)))

pub frees_answer : (flags : List ℕ) (n : ℕ) (rest : List Call) → n ≤ 56 → are_low (ops_of rest) ≡ true → AllAnswer flags rest → AllAnswer flags (freed_calls n ++ rest)
unfolding ops_of slot_after
frees_answer flags zero rest few low a = a
frees_answer flags (suc n) rest few low a =
    let row : ℕ = 8450 + n in
    let before : Slot = slot_after (ops_of (freed_calls n ++ rest)) row in
    let here : before ≡ opening_slot row = others_stay row n rest (omega arith) ∙ untouched row (ops_of rest) (omega arith) low in
    let named : IsRow row = (omega arith, omega (arith, few)) in
    let on : (row == row) ≡ true = eq-eqb row row refl in
    let taken : (cond (row == row) (slot_by Holds before) before).taken ≡ true = ap (λ z. (cond z (slot_by Holds before) before).taken) on in
    let version : (cond (row == row) (slot_by Holds before) before).version ≡ 0 = ap (λ z. (cond z (slot_by Holds before) before).version) on ∙ ap (λ (z : Slot). z.version) here in (
      (named, taken, sym version),
      (
        (named, ap (λ (z : Slot). z.taken) here, sym (ap (λ (z : Slot). z.version) here), sym (ap (λ (z : Slot). z.content) here)),
        frees_answer flags n rest (omega (arith, few)) low a,
      ),
    )
