-- Flushes, ask by ask.
use Rattle.std.proofs.Common.{ℕ, zero, suc, ◌≡◌, ◌<◌, ◌≤◌, ◌+◌, List, [], ◌∷◌, ◌++◌, Option, length, take, drop, map, slice_index_or, ap, sym, ◌∙◌, subst, arith}
use Rattle.std.specs.List.{flat_map, All}
use Rattle.std.proofs.lemmas.List.{take_more, append-nil, map-append, take-append-drop}
use Rattle.std.proofs.lemmas.Grind.{flat_map-append}
use Rattle.pfs_levels.specs.declared.flushes.Source.{Source}
use Rattle.pfs_levels.specs.Calls.{Call, Opening}
use Rattle.pfs_levels.specs.Flushes.{Ascends, asks_of, CellsAreAway}
use Rattle.pfs_event.specs.Logs.{Journal}
use Rattle.pfs_levels.specs.Moves.{Ask, ask, Moved, Stays, cost, AreAway}
use Rattle.pfs_levels.specs.Views.{Store}
use Rattle.pfs_levels.proofs.MoveLists.{moved_then}

pub cost_then : (xs ys : List Ask) → cost (xs ++ ys) ≡ cost xs + cost ys
cost_then [] ys = omega arith
cost_then (x ∷ xs) ys = omega (arith, cost_then xs ys)

pub stays_then : (m n : ℕ) (a b c : Store) (old at new : Journal) → Stays m a b old at → Stays n b c at new → Stays (m + n) a c old new
stays_then m n a b c old at new p q = record {
  left = omega (arith, p.left, q.left);
  draws = omega (arith, p.draws, q.draws);
  no_more = omega (arith, p.no_more, q.no_more);
  hand = λ r. q.hand r ∙ p.hand r;
  words = q.words ∙ p.words;
  name = q.name ∙ p.name;
  room = omega (arith, p.room, q.room);
}

-- the asks so far, and those of one more
pub moved_more : (before more whole : List Ask) (old at new : Journal) (was mid now : Opening → List Call → Type 0) → whole ≡ before ++ more → Moved before old at was mid → Moved more at new mid now → Moved whole old new was now
moved_more before more whole old at new was mid now e p q = subst (λ z. Moved z old new was now) (sym e) (moved_then before more old at new was mid now p q)

pub stays_more : (before more whole : List Ask) (a b c : Store) (old at new : Journal) → whole ≡ before ++ more
    → Stays (cost before) a b old at → Stays (cost more) b c at new → Stays (cost whole) a c old new
stays_more before more whole a b c old at new e p q =
    subst (λ z. Stays z a c old new) (sym (ap cost e ∙ cost_then before more)) (stays_then (cost before) (cost more) a b c old at new p q)

-- what is left is enough for one more
pub enough : (before more whole all : List Ask) (have now : ℕ) → whole ≡ before ++ more → cost whole ≤ cost all → cost all ≤ have → have ≤ now + cost before → cost more ≤ now
enough before more whole all have now e front all_fit used = omega (arith, ap cost e, cost_then before more)

-- cells
pub cells_more : (f : ℕ → Ask) (cells : List ℕ) (i from : ℕ) (to : List ℕ) → i < length cells → from ≡ (f (slice_index_or cells i 0)).from → to ≡ (f (slice_index_or cells i 0)).to → map f (take (i + 1) cells) ≡ map f (take i cells) ++ ask from to ∷ []
cells_more f cells i from to k e g = ap (map f) (take_more cells i 0 k) ∙ map-append f (take i cells) (slice_index_or cells i 0 ∷ [])
    ∙ ap (λ z. map f (take i cells) ++ ask z (f (slice_index_or cells i 0)).to ∷ []) (sym e) ∙ ap (λ z. map f (take i cells) ++ ask from z ∷ []) (sym g)

front_fits : (xs ys : List Ask) → cost xs ≤ cost (xs ++ ys)
front_fits xs ys = omega (arith, cost_then xs ys)

pub cells_fit : (f : ℕ → Ask) (cells : List ℕ) (i : ℕ) → cost (map f (take i cells)) ≤ cost (map f cells)
cells_fit f cells i = subst (λ z. cost (map f (take i cells)) ≤ cost z) (sym (map-append f (take i cells) (drop i cells)) ∙ ap (map f) (take-append-drop i cells)) (front_fits (map f (take i cells)) (map f (drop i cells)))

-- places
pub sources_more : (g : Source → List Ask) (sources : List Source) (i : ℕ) (s : Source) → i < length sources → s ≡ slice_index_or sources i s → flat_map g (take (i + 1) sources) ≡ flat_map g (take i sources) ++ g s
sources_more g sources i s k e = ap (flat_map g) (take_more sources i s k) ∙ flat_map-append g (take i sources) (slice_index_or sources i s ∷ []) ∙ ap (λ z. flat_map g (take i sources) ++ z) (append-nil (g (slice_index_or sources i s)) ∙ ap g (sym e))

pub sources_fit : (g : Source → List Ask) (sources : List Source) (i : ℕ) → cost (flat_map g (take i sources)) ≤ cost (flat_map g sources)
sources_fit g sources i = subst (λ z. cost (flat_map g (take i sources)) ≤ cost z) (sym (flat_map-append g (take i sources) (drop i sources)) ∙ ap (flat_map g) (take-append-drop i sources)) (front_fits (flat_map g (take i sources)) (flat_map g (drop i sources)))

pub stays_as : (m n : ℕ) (a b : Store) (old new : Journal) → m ≡ n → Stays m a b old new → Stays n a b old new
stays_as m n a b old new e s = subst (λ z. Stays z a b old new) e s

pub ascends_below : (low limit : ℕ) (xs : List ℕ) → Ascends low limit xs → All (λ x. x < limit) xs
ascends_below low limit [] a zero d k = absurd (omega (arith, k))
ascends_below low limit [] a (suc i) d k = absurd (omega (arith, k))
ascends_below low limit (x ∷ xs) a zero d k = a.1.0
ascends_below low limit (x ∷ xs) a (suc i) d k = ascends_below (x + 1) limit xs a.1.1 i d (omega (arith, k))

-- rows that were away, where each row's hand is as before
away_rows : (old now : ℕ → Option ℕ) (rows : List ℕ) → ((r : ℕ) → now r ≡ old r) → AreAway old rows → AreAway now rows
away_rows old now [] same a = tt
away_rows old now (row ∷ rows) same a = ((a.0.0, same row ∙ a.0.1), away_rows old now rows same a.1)

pub away_now : (old now : ℕ → Option ℕ) (cells : List ℕ) (source : Source) → ((r : ℕ) → now r ≡ old r) → CellsAreAway old cells source → CellsAreAway now cells source
away_now old now cells source same a = λ k d low.
    let b = a k d low in
    ((b.0.0, same _ ∙ b.0.1), away_rows old now _ same b.1)

pub away_as : (hand : ℕ → Option ℕ) (ks cs : List ℕ) (s t : Source) → ks ≡ cs → s ≡ t → CellsAreAway hand ks s → CellsAreAway hand cs t
away_as hand ks cs s t e f a =
    let P : List ℕ → Type 0 = λ z. CellsAreAway hand z t in
    let Q : Source → Type 0 = λ z. CellsAreAway hand ks z in
    subst P e (subst Q f a)

pub sources_more_at : (ks cs : List ℕ) (sources : List Source) (i : ℕ) (s : Source) → i < length sources → ks ≡ cs → s ≡ slice_index_or sources i s → flat_map (asks_of ks) (take (i + 1) sources) ≡ flat_map (asks_of ks) (take i sources) ++ asks_of cs s
sources_more_at ks cs sources i s k e f = sources_more (asks_of ks) sources i s k f ∙ ap (λ z. flat_map (asks_of ks) (take i sources) ++ asks_of z s) e
