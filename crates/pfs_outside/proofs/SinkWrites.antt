-- Lemmas on what was written.
use Rattle.std.proofs.Common.{ℕ, ◌+◌, ◌≤◌, List, ◌++◌, take, drop, Option, Some, None, Result, Ok, Err, sym, ap, ◌∙◌, arith, append_assoc, inl, inr}
use Rattle.std.proofs.Math.Seq.{take-add}
use Rattle.std.proofs.lemmas.List.{take-append-drop}
use Rattle.pfs_outside.specs.DeviceCalls.{Added, Rose}
use Rattle.pfs_outside.specs.WholeStreams.{AddedPart, Puts}
use Rattle.pfs_outside.specs.declared.writing.WriteStop.{WriteStop}
use Rattle.pfs_outside.specs.declared.writing.WriteStop.TheVariants.{Failed, NoMemory}

-- one text and then another
pub added_more : (a b c : Option (List ℕ)) (x y : List ℕ) → Added a b x → Added b c y → Added a c (x ++ y)
added_more None b c x y p q = rw p at q
added_more (Some t) b c x y p q = let e = rw p at q in simp append_assoc at e

-- one text and then a front of another
pub added_part_more : (a b c : Option (List ℕ)) (x y : List ℕ) → Added a b x → AddedPart b c y → AddedPart a c (x ++ y)
added_part_more a b c x y p q = (x ++ q.0, q.1, ap (λ z. x ++ z) q.2 ∙ sym (append_assoc x q.0 q.1), added_more a b c x q.0 p q.3)

-- a front of a text is a front of a longer one
pub added_part_longer : (a b : Option (List ℕ)) (x y : List ℕ) → AddedPart a b x → AddedPart a b (x ++ y)
added_part_longer a b x y q = (q.0, q.1 ++ y, ap (λ z. z ++ y) q.2 ∙ append_assoc q.0 q.1 y, q.3)

-- a rise is one also from an earlier count, and to it a later
pub rose_before : (k m n : ℕ) → k ≤ m → Rose m n → Rose k n
rose_before k m n h (inl r) = inl (omega arith)
rose_before k m n h (inr r) = inr r

-- the next part of a text, behind what stands before it
pub added_take : (a b c : Option (List ℕ)) (text : List ℕ) (i n : ℕ) → Added a b (take i text) → Added b c (take n (drop i text)) → Added a c (take (i + n) text)
added_take a b c text i n p q = rw (take-add i n text) (added_more a b c _ _ p q)

-- a front by length is a front
pub part_of_take : (a b : Option (List ℕ)) (text : List ℕ) (i : ℕ) → Added a b (take i text) → AddedPart a b text
part_of_take a b text i p = (take i text, drop i text, sym (take-append-drop i text), p)

-- a text and then another, both whole or the second in part
pub puts_then : (a b c : Option (List ℕ)) (k m n : ℕ) (x y : List ℕ) (r : Result (Unit {0}) WriteStop) → Added a b x × (k ≤ m) → Puts b c m n y r → Puts a c k n (x ++ y) r
puts_then a b c k m n x y (Ok done) p q = (added_more a b c x y p.0 q.0, omega arith)
puts_then a b c k m n x y (Err Failed) p q = (added_part_more a b c x y p.0 q.0, rose_before k m n p.1 q.1, omega arith)
puts_then a b c k m n x y (Err NoMemory) p q = (added_part_more a b c x y p.0 q.0, omega arith)

-- the first of two texts stopped
pub puts_stop : (a b : Option (List ℕ)) (k n : ℕ) (x y : List ℕ) (e : WriteStop) → Puts a b k n x (Err e) → Puts a b k n (x ++ y) (Err e)
puts_stop a b k n x y Failed p = (added_part_longer a b x y p.0, p.1, p.2)
puts_stop a b k n x y NoMemory p = (added_part_longer a b x y p.0, p.1)
