-- The rows that a flush takes ascend.
use Rattle.std.proofs.Common.{ℕ, ◌≡◌, ◌≤◌, ◌+◌, ◌*◌, List, [], ◌∷◌, ◌++◌, map, refl, ap, sym, subst, arith}
use Rattle.std.specs.List.{flat_map}
use Rattle.std.proofs.lemmas.List.{map-append}
use Rattle.pfs_event.specs.declared.kind.EventKind.{EventKind}
use Rattle.pfs_levels.specs.declared.flushes.Source.{Source}
use Rattle.pfs_levels.specs.declared.flushes.Source.TheVariants as of
use Rattle.pfs_levels.specs.declared.places.Level.{Level}
use Rattle.pfs_levels.specs.declared.places.Level.TheVariants as levels
use Rattle.pfs_levels.specs.declared.places.Places.{Places}
use Rattle.pfs_levels.specs.Flushes.{Ascends, ArePlaces, ask_of, asks_of, cells_of, flushed, from_of, place_of_up}
use Rattle.pfs_levels.specs.Moves.{Ask}

wider : (low low2 limit limit2 : ℕ) (xs : List ℕ) → low2 ≤ low → limit ≤ limit2 → Ascends low limit xs → Ascends low2 limit2 xs
wider low low2 limit limit2 [] l m a = tt
wider low low2 limit limit2 (x ∷ xs) l m a = (omega (arith, l, a.0), (omega (arith, m, a.1.0), wider (x + 1) (x + 1) limit limit2 xs (omega arith) m a.1.1))

then_up : (low mid limit : ℕ) (xs ys : List ℕ) → mid ≤ limit → low ≤ mid → Ascends low mid xs → Ascends mid limit ys → Ascends low limit (xs ++ ys)
then_up low mid limit [] ys m l a b = wider mid low limit limit ys l (omega arith) b
then_up low mid limit (x ∷ xs) ys m l a b = (a.0, (omega (arith, m, a.1.0), then_up (x + 1) mid limit xs ys m (omega (arith, a.1.0)) a.1.1 b))

cells_ascend : (f : ℕ → Ask) (base low : ℕ) (cells : List ℕ) → ((c : ℕ) → (f c).from ≡ base + c) → Ascends low 64 cells → Ascends (base + low) (base + 64) (map from_of (map f cells))
cells_ascend f base low [] h a = tt
cells_ascend f base low (x ∷ xs) h a =
    (omega (arith, h x, a.0), (omega (arith, h x, a.1.0), wider (base + (x + 1)) ((f x).from + 1) (base + 64) (base + 64) (map from_of (map f xs)) (omega (arith, h x)) (omega arith) (cells_ascend f base (x + 1) xs h a.1.1)))

places_ascend : {X : Type 0} (g : X → Source) (place : X → ℕ) (base low : ℕ) (cells : List ℕ) (xs : List X) → ((x : X) (c : ℕ) → (ask_of (g x) c).from ≡ base + 64 * place x + c) → Ascends 0 64 cells → Ascends low 32 (map place xs)
    → Ascends (base + 64 * low) (base + 2048) (map from_of (flat_map (asks_of cells) (map g xs)))
places_ascend g place base low cells [] h k a = tt
places_ascend g place base low cells (x ∷ xs) h k a =
    let here : Ascends (base + 64 * place x + 0) (base + 64 * place x + 64) (map from_of (asks_of cells (g x))) = cells_ascend (ask_of (g x)) (base + 64 * place x) 0 cells (h x) k in
    let more : Ascends (base + 64 * (place x + 1)) (base + 2048) (map from_of (flat_map (asks_of cells) (map g xs))) = places_ascend g place base (place x + 1) cells xs h k a.1.1 in
    let all : Ascends (base + 64 * low) (base + 2048) (map from_of (asks_of cells (g x)) ++ map from_of (flat_map (asks_of cells) (map g xs))) =
    then_up (base + 64 * low) (base + 64 * (place x + 1)) (base + 2048) _ _ (omega (arith, a.1.0)) (omega (arith, a.0))
    (wider (base + 64 * place x + 0) (base + 64 * low) (base + 64 * place x + 64) (base + 64 * (place x + 1)) (map from_of (asks_of cells (g x))) (omega (arith, a.0)) (omega arith) here) more in
    subst (λ z. Ascends (base + 64 * low) (base + 2048) z) (sym (map-append from_of (asks_of cells (g x)) (flat_map (asks_of cells) (map g xs)))) all

abbrev itself : ℕ → ℕ
itself n = n

same_list : (xs : List ℕ) → map itself xs ≡ xs
same_list [] = refl
same_list (x ∷ xs) = ap (λ z. x ∷ z) (same_list xs)

numbers_ascend : (g : ℕ → Source) (base : ℕ) (cells xs : List ℕ) → ((x c : ℕ) → (ask_of (g x) c).from ≡ base + 64 * x + c) → Ascends 0 64 cells → Ascends 0 32 xs → Ascends (base + 64 * 0) (base + 2048) (map from_of (flat_map (asks_of cells) (map g xs)))
numbers_ascend g base cells xs h k a = places_ascend g itself base 0 cells xs h k (subst (λ z. Ascends 0 32 z) (sym (same_list xs)) a)

pub flushes_ascend : (p : Places) (kind : EventKind) (level : Level) → ArePlaces p kind level → Ascends 1 14242 (map from_of (flushed p kind level))
flushes_ascend p kind levels.Thread a = wider _ 1 _ 14242 _ (omega arith) (omega arith) (places_ascend of.Thread place_of_up 129 0 (cells_of p kind) p.threads (λ x c. refl) a.cells a.threads)
flushes_ascend p kind levels.Account a = wider _ 1 _ 14242 _ (omega arith) (omega arith) (places_ascend of.Account place_of_up 2177 0 (cells_of p kind) p.accounts (λ x c. refl) a.cells a.accounts)
flushes_ascend p kind levels.User a = wider _ 1 _ 14242 _ (omega arith) (omega arith) (numbers_ascend of.User 4225 (cells_of p kind) p.users (λ x c. refl) a.cells a.users)
flushes_ascend p kind levels.Host a = wider _ 1 _ 14242 _ (omega arith) (omega arith) (numbers_ascend of.Host 6273 (cells_of p kind) p.hosts (λ x c. refl) a.cells a.hosts)
