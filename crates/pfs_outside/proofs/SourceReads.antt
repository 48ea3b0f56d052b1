-- Lemmas on what was read.
use Rattle.std.proofs.Common.{ℕ, ◌≡◌, ◌+◌, ◌<◌, ◌≤◌, List, [], ◌++◌, length, take, drop, Option, Some, None, IfSome, sym, ap, ◌∙◌, arith, append_assoc, append-nil, length-append, length-drop}
use Rattle.std.proofs.lemmas.List.{take-append-drop, drop-drop, take_at, length-take-le}
use Rattle.pfs_outside.specs.DeviceCalls.{Gave}
use Rattle.pfs_outside.specs.WholeStreams.{Took}

-- a copy of what stands at a place, and what stands behind it
pub copied : (b p q : List ℕ) (at m n : ℕ) → p ≡ take m (drop at b) → m ≡ n → at + n ≤ length b → drop at b ≡ take n (p ++ q) ++ drop (at + n) b
copied b p q at m n e k h =
    let short : n ≤ length (drop at b) = omega (arith, length-drop at b) in
    let l : length p ≡ n = ap length e ∙ (ap (λ i. length (take i (drop at b))) k ∙ length-take-le n (drop at b) short) in
    sym (ap (λ z. z ++ drop (at + n) b) (take_at p q n l ∙ (e ∙ ap (λ i. take i (drop at b)) k)) ∙ (ap (λ z. take n (drop at b) ++ z) (sym (drop-drop n at b)) ∙ take-append-drop n (drop at b)))

-- some bytes and then others
gave_more : (a b c : Option (List ℕ)) (x y : List ℕ) → Gave a b x → Gave b c y → Gave a c (x ++ y)
gave_more a b None x y p q = rw q at p
gave_more a b (Some rest) x y p q = let e = rw q at p in rw append_assoc e

-- the next read's bytes
pub took_more : {S : Type 0} (left : S → Option (List ℕ)) (faults : S → ℕ) (before mid after : S) (x y : List ℕ) → Took left faults before mid x → Gave (left mid) (left after) y → faults after ≡ faults mid → Took left faults before after (x ++ y)
took_more left faults before mid after x y p gave kept = record {
  gave = gave_more (left before) (left mid) (left after) x y p.gave gave;
  unfailed = kept ∙ p.unfailed;
}

-- at the end all has come
pub gave_all : (a b : Option (List ℕ)) (x : List ℕ) → Gave a b x → IfSome b (λ rest. rest ≡ []) → IfSome a (λ text. x ≡ text)
gave_all a None x p q = rw p tt
gave_all a (Some rest) x p q = let e = rw q at p in rw e (sym (append-nil x))

-- what came is no longer than what there was
pub gave_long : (a b : Option (List ℕ)) (x : List ℕ) (most : ℕ) → Gave a b x → most < length x → IfSome a (λ text. most < length text)
gave_long a None x most p h = rw p tt
gave_long a (Some rest) x most p h = rw p (omega (arith, h, length-append x rest))
