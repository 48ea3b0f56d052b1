-- Words taken apart and put together again.
use Rattle.std.proofs.Common.{◌≡◌, ℕ, zero, suc, ◌+◌, ◌*◌, ◌/◌, ◌%◌, ◌<◌, nat_eq, List, [], ◌∷◌, length, get_or, refl, arith}
use Rattle.pfs_event.specs.EventForm.{bit_of}

bit_below_two : (m : ℕ) → m < 2 → bit_of (nat_eq m 1) ≡ m
bit_below_two zero below = refl
bit_below_two (suc zero) below = refl
bit_below_two (suc (suc m)) below = absurd (omega (arith, below))

-- the two flags and the nesting of a word give the word back
pub flags_back : (n : ℕ) → bit_of (nat_eq (n % 2) 1) + 2 * bit_of (nat_eq (n / 2 % 2) 1) + 4 * (n / 4) ≡ n
flags_back n =
    let low : bit_of (nat_eq (n % 2) 1) ≡ n % 2 = bit_below_two (n % 2) (omega arith) in
    let high : bit_of (nat_eq (n / 2 % 2) 1) ≡ n / 2 % 2 = bit_below_two (n / 2 % 2) (omega arith) in
    rw (low, high) (omega arith)

-- the class and the link of a word give the word back
pub class_back : (n : ℕ) → n % 64 + 64 * (n / 64) ≡ n
class_back n = omega arith

-- sixteen words are the words of the event that stands in them
abbrev pub rebuilt : List ℕ → List ℕ
rebuilt w =
    get_or w 0 0 ∷ get_or w 1 0 ∷ get_or w 2 0
    ∷ (get_or w 3 0 % 64 + 64 * (get_or w 3 0 / 64))
    ∷ (bit_of (nat_eq (get_or w 4 0 % 2) 1) + 2 * bit_of (nat_eq (get_or w 4 0 / 2 % 2) 1) + 4 * (get_or w 4 0 / 4))
    ∷ 0 ∷ get_or w 6 0 ∷ get_or w 7 0 ∷ get_or w 8 0
    ∷ get_or w 9 0 ∷ get_or w 10 0 ∷ get_or w 11 0 ∷ get_or w 12 0 ∷ get_or w 13 0 ∷ get_or w 14 0 ∷ get_or w 15 0 ∷ []

pub rebuilt_is : (w : List ℕ) → length w ≡ 16 → get_or w 5 0 ≡ 0 → rebuilt w ≡ w
rebuilt_is (a ∷ b ∷ c ∷ d ∷ e ∷ f ∷ g ∷ h ∷ i ∷ j ∷ k ∷ l ∷ m ∷ n ∷ o ∷ p ∷ []) len spare =
    rw (class_back d, flags_back e, spare) refl
rebuilt_is w len spare = absurd (omega (arith, len))
