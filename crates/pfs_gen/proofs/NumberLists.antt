-- Lists that are made number by number.
use Rattle.std.proofs.Common.{ℕ, zero, suc, ◌≡◌, ◌+◌, ◌-◌, ◌*◌, List, [], ◌∷◌, ◌++◌, ap, ◌∙◌, sym, arith, append_assoc, append-nil, Result, Ok, Err}
use Rattle.std.specs.Prelude.{OnOk}
use Rattle.std.specs.List.{flat_map, range_with_len}
use Rattle.pfs_gen.specs.GeneratedScript.{unit_at, units_text, session_line, session_text}
use Rattle.std.proofs.lemmas.List.Concat.{flat_map-append}

range_push : (a n : ℕ) → range_with_len a (suc n) ≡ range_with_len a n ++ (a + n) ∷ []
range_push a zero = let e : a ≡ a + 0 = omega arith in ap (λ k. k ∷ []) e
range_push a (suc n) =
    let e : a + 1 + n ≡ a + suc n = omega arith in
    ap (λ (z : List ℕ). a ∷ z) (range_push (a + 1) n ∙ ap (λ k. range_with_len (a + 1) n ++ k ∷ []) e)

range_more : (f : ℕ → List ℕ) (a n k : ℕ) → k ≡ a + n → flat_map f (range_with_len a (n + 1)) ≡ flat_map f (range_with_len a n) ++ f k
range_more f a n k e =
    let s : n + 1 ≡ suc n = omega arith in
    ap (λ m. flat_map f (range_with_len a m)) s
    ∙ (ap (flat_map f) (range_push a n ∙ ap (λ m. range_with_len a n ++ m ∷ []) (sym e))
    ∙ (flat_map-append f (range_with_len a n) (k ∷ [])
    ∙ ap (λ (z : List ℕ). flat_map f (range_with_len a n) ++ z) (append-nil (f k))))

-- a text that is made number by number, with that of one number more
pub text_more : (f : ℕ → List ℕ) (a n k : ℕ) (old before now : List ℕ) → k ≡ a + n → before ≡ old ++ flat_map f (range_with_len a n) → now ≡ before ++ f k → now ≡ old ++ flat_map f (range_with_len a (n + 1))
text_more f a n k old before now e b w =
    w ∙ (ap (λ (z : List ℕ). z ++ f k) b
    ∙ (append_assoc old (flat_map f (range_with_len a n)) (f k)
    ∙ ap (λ (z : List ℕ). old ++ z) (sym (range_more f a n k e))))

pub units_none : (number first : ℕ) (old : List ℕ) → old ≡ old ++ units_text number first 0
unfolding units_text
units_none number first old = sym (append-nil old)

pub units_more : (number first n k : ℕ) (old before now : List ℕ) → k ≡ first + n → before ≡ old ++ units_text number first n → now ≡ before ++ unit_at number k → now ≡ old ++ units_text number first (n + 1)
unfolding units_text
units_more number first n k old before now e b w = text_more (unit_at number) first n k old before now e b w

-- a session's line and its units
pub session_is : {Fault : Type 0} (r : Result ℕ Fault) (number below : ℕ) (old mid now : List ℕ) → mid ≡ old ++ session_line (below + 1) → OnOk r (now ≡ mid ++ units_text number (500 * below) 500) → OnOk r (now ≡ old ++ session_text number (below + 1))
unfolding session_text
session_is (Ok next) number below old mid now line units =
    let place : 500 * below ≡ 500 * (below + 1 - 1) = omega arith in
    units ∙ (ap (λ (z : List ℕ). z ++ units_text number (500 * below) 500) line
    ∙ (append_assoc old (session_line (below + 1)) (units_text number (500 * below) 500)
    ∙ ap (λ n. old ++ (session_line (below + 1) ++ units_text number n 500)) place))
session_is (Err fault) number below old mid now line units = tt
