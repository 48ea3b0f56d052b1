-- Entries visited part by part.
use Rattle.std.proofs.Common.{◌≡◌, refl, ℕ, zero, suc, ◌+◌, ◌<◌, List, [], ◌∷◌, ◌++◌, length, get_or, drop, sym, ◌∙◌, ap, subst, arith, append_assoc}
use Rattle.std.proofs.lemmas.List.{append-nil, drop_more, length-append}
use Rattle.pfs_model.specs.EntryPlaces.{Placed}
use Rattle.pfs_check_faults.specs.ReportCases.{AllHave}
use Rattle.pfs_check_walk.specs.Walks.{LacksFirst, onto}
use Rattle.pfs_check_walk.proofs.EntryWalks.{keep_append, onto_append}
use Rattle.pfs_check_visits.specs.declared.visited.Visited.{Visited}
use Rattle.pfs_check_visits.specs.declared.visited.Visited.TheVariants.{Kept, Lacking}
use Rattle.pfs_check_visits.specs.Visits.{AreKept, AreVisited}

lacks_front : (rule : List Placed → Placed → Type 0) (earlier xs ys : List Placed) (at : ℕ) → LacksFirst rule earlier xs at
    → LacksFirst rule earlier (xs ++ ys) at
lacks_front rule earlier [] ys at l = absurd l
lacks_front rule earlier (x ∷ xs) ys zero l = l
lacks_front rule earlier (x ∷ xs) ys (suc at) l = (l.0, lacks_front rule (x ∷ earlier) xs ys at l.1)

lacks_behind : (rule : List Placed → Placed → Type 0) (earlier xs ys : List Placed) (at n : ℕ) → n ≡ length xs + at
    → AllHave rule earlier xs → LacksFirst rule (onto earlier xs) ys at → LacksFirst rule earlier (xs ++ ys) n
lacks_behind rule earlier [] ys at n e a l =
    let same : at ≡ n = omega (arith, e) in
    subst (λ (z : ℕ). LacksFirst rule earlier ys z) same l
lacks_behind rule earlier (x ∷ xs) ys at zero e a l = absurd (omega (arith, e))
lacks_behind rule earlier (x ∷ xs) ys at (suc n) e a l = (a.0, lacks_behind rule (x ∷ earlier) xs ys at n (omega (arith, e)) a.1 l)

-- These are left of the whole, behind so many that keep the rule.
pub record IsAt (rule : List Placed → Placed → Type 0) (knows : List Placed → Type 0) (earlier whole rest : List Placed)
    (count : ℕ) : Type 0 where
  pub done : List Placed
  pub whole_is : whole ≡ done ++ rest
  pub kept : AreKept rule earlier done knows count

pub at_first : (rule : List Placed → Placed → Type 0) (knows : List Placed → Type 0) (earlier whole : List Placed)
    → knows earlier → IsAt rule knows earlier whole whole 0
at_first rule knows earlier whole k =
    record { done = []; whole_is = refl; kept = record { keep = tt; known = k; count_is = refl } }

-- some more keep it
pub at_more : (rule : List Placed → Placed → Type 0) (knows behind : List Placed → Type 0)
    (earlier whole rest part more : List Placed) (count few next : ℕ) (a : IsAt rule knows earlier whole rest count)
    → rest ≡ part ++ more → AreKept rule (onto earlier a.done) part behind few → next ≡ count + few
    → IsAt rule behind earlier whole more next
at_more rule knows behind earlier whole rest part more count few next a r k n = record {
  done = a.done ++ part;
  whole_is = a.whole_is ∙ ap (λ (z : List Placed). a.done ++ z) r ∙ sym (append_assoc a.done part more);
  kept = record {
    keep = keep_append rule earlier a.done part a.kept.keep k.keep;
    known = subst behind (sym (onto_append earlier a.done part)) k.known;
    count_is =
        let first = a.kept.count_is in
        let then = k.count_is in
        omega (arith, n, first, then, length-append a.done part);
  };
}

-- one of them lacks it
pub at_lacking : (rule : List Placed → Placed → Type 0) (knows : List Placed → Type 0) (earlier whole rest part more : List Placed)
    (count at n : ℕ) (a : IsAt rule knows earlier whole rest count) → rest ≡ part ++ more
    → LacksFirst rule (onto earlier a.done) part at → n ≡ count + at → LacksFirst rule earlier whole n
at_lacking rule knows earlier whole rest part more count at n a r l e =
    let first = a.kept.count_is in
    subst (λ (z : List Placed). LacksFirst rule earlier z n) (sym (a.whole_is ∙ ap (λ (z : List Placed). a.done ++ z) r))
    (lacks_behind rule earlier a.done (part ++ more) at n (omega (arith, e, first)) a.kept.keep
    (lacks_front rule (onto earlier a.done) part more at l))

-- none is left
pub at_end : (rule : List Placed → Placed → Type 0) (knows : List Placed → Type 0) (earlier whole rest : List Placed)
    (count : ℕ) → IsAt rule knows earlier whole rest count → rest ≡ [] → AreKept rule earlier whole knows count
at_end rule knows earlier whole rest count a r =
    subst (λ (z : List Placed). AreKept rule earlier z knows count)
    (sym (a.whole_is ∙ ap (λ (z : List Placed). a.done ++ z) r ∙ append-nil a.done)) a.kept

-- what is told may be said otherwise
pub told_as : (rule : List Placed → Placed → Type 0) (earlier places : List Placed) (knows : List Placed → Type 0)
    (told other : Type 0) (visited : Visited) → (told → other) → AreVisited rule earlier places knows told visited
    → AreVisited rule earlier places knows other visited
told_as rule earlier places knows told other (Kept count) go v = (v.0, go v.1)
told_as rule earlier places knows told other (Lacking at) go v = v

-- an element stands before those behind it
pub next_is : {A : Type 0} (xs : List A) (i : ℕ) (x : A) → i < length xs → x ≡ get_or xs i x → drop i xs ≡ x ∷ drop (i + 1) xs
next_is {A} xs i x h e = drop_more xs i x h ∙ ap (λ (y : A). y ∷ drop (i + 1) xs) (sym e)

-- what is the same as an element is that element too
pub same_read : {A : Type 0} (xs : List A) (i : ℕ) (x y : A) → y ≡ x → x ≡ get_or xs i x → y ≡ get_or xs i y
same_read {A} xs i x y same is = same ∙ is ∙ ap (λ (z : A). get_or xs i z) (sym same)

-- a value that is read from a list is what is read there whatever stands for none
pub read_at : {A : Type 0} (xs : List A) (i : ℕ) (d : A) → i < length xs → get_or xs i d ≡ get_or xs i (get_or xs i d)
read_at [] i d h = absurd (omega (arith, h))
read_at (x ∷ xs) zero d h = refl
read_at (x ∷ xs) (suc i) d h = read_at xs i d (omega (arith, h))
