-- Lines that print what each action asks for, in order, are chained.
use Rattle.std.proofs.Common.{◌⊎◌, inl, inr, ◌≡◌, ℕ, zero, suc, ◌<◌, ◌≤◌, ◌==◌, ◌&&◌, Bool, true, false, cond, List, [], ◌∷◌, ◌++◌, Option, count_by, refl, sym, ap, ◌∙◌, subst, arith}
use Rattle.std.specs.Prelude.{nat_lt}
use Rattle.std.proofs.lemmas.Bool.{and_from, eqb-true}
use Rattle.pfs_lemmas.proofs.Numbers.{eq_self}
use Rattle.pfs_lemmas.proofs.Bools.{and_first, and_second}
use Rattle.pfs_conservation.specs.RowChains.{Change, Taken, Given}
use Rattle.pfs_conservation.specs.RowMoves.{Move, goes_to, touch, touches, Climbs, AllLater, IsLater, InOrder}
use Rattle.pfs_conservation.specs.Tenures.{Owner}
use Rattle.pfs_conservation.specs.ActionMoves.{moves_of, moves_to}
use Rattle.pfs_conservation.specs.PrintedChanges.{Kind, Adds, Takes, Gives, Tagged, as_change, change_of, Stands, IsAmong, IsMove, action_of, source_of, AreChained}
use Rattle.pfs_conservation.specs.Prints.{Print, gives_of, prints_of, prints_all, is_move, printed_by, Above, Rises, AreBy, AreActed}
use Rattle.pfs_conservation.proofs.MergeTotals.{bit_yes, bit_no}
use Rattle.pfs_conservation.proofs.ChainEvents.{count_cons}
use Rattle.pfs_conservation.proofs.ChainLines.{among_joined, among_left, among_right}

-- a change is printed for a row
abbrev pub InPrints : ℕ → Change → List Print → Type 0
InPrints row change [] = ⊥
InPrints row change (p ∷ ps) = ((p.row ≡ row) × (p.change ≡ change)) ⊎ InPrints row change ps

prints_joined : (row : ℕ) (c : Change) (xs ys : List Print) → InPrints row c (xs ++ ys) → InPrints row c xs ⊎ InPrints row c ys
prints_joined row c [] ys h = inr h
prints_joined row c (x ∷ xs) ys (inl q) = inl (inl q)
prints_joined row c (x ∷ xs) ys (inr h) = up (prints_joined row c xs ys h)
  where
    up : InPrints row c xs ⊎ InPrints row c ys → InPrints row c (x ∷ xs) ⊎ InPrints row c ys
    up (inl k) = inl (inr k)
    up (inr k) = inr k

prints_left : (row : ℕ) (c : Change) (xs ys : List Print) → InPrints row c xs → InPrints row c (xs ++ ys)
prints_left row c [] ys h = absurd h
prints_left row c (x ∷ xs) ys (inl q) = inl q
prints_left row c (x ∷ xs) ys (inr h) = inr (prints_left row c xs ys h)

prints_right : (row : ℕ) (c : Change) (xs ys : List Print) → InPrints row c ys → InPrints row c (xs ++ ys)
prints_right row c [] ys h = h
prints_right row c (x ∷ xs) ys h = inr (prints_right row c xs ys h)

-- a give is printed for a row that gets it, if something is given
given_is : (kept : ℕ → ℕ → Bool) (m : Move) (row : ℕ) (c : Change) (to : List ℕ) → InPrints row c (gives_of kept m to) → (Given m.action m.from ≡ c) × (kept m.action m.from ≡ true) × (1 ≤ count_by (λ r. r == row) to)
given_is kept m row c [] h = absurd h
given_is kept m row c (r ∷ to) h = by (prints_joined row c (cond (kept m.action m.from) (record { row = r; change = Given m.action m.from } ∷ []) []) (gives_of kept m to) h) (given_is kept m row c to)
  where
    here : (b : Bool) → kept m.action m.from ≡ b → InPrints row c (cond b (record { row = r; change = Given m.action m.from } ∷ []) []) → (Given m.action m.from ≡ c) × (kept m.action m.from ≡ true) × (1 ≤ count_by (λ x. x == row) (r ∷ to))
    here true q (inl e) = (e.1, q, omega (arith, count_cons (λ x. x == row) r to, bit_yes (r == row) (ap (λ z. z == row) e.0 ∙ eq_self row)))
    here true q (inr e) = absurd e
    here false q e = absurd e

    by : InPrints row c (cond (kept m.action m.from) (record { row = r; change = Given m.action m.from } ∷ []) []) ⊎ InPrints row c (gives_of kept m to) → (InPrints row c (gives_of kept m to) → (Given m.action m.from ≡ c) × (kept m.action m.from ≡ true) × (1 ≤ count_by (λ x. x == row) to)) → (Given m.action m.from ≡ c) × (kept m.action m.from ≡ true) × (1 ≤ count_by (λ x. x == row) (r ∷ to))
    by (inl k) ih = here (kept m.action m.from) refl k
    by (inr k) ih = let u : (Given m.action m.from ≡ c) × (kept m.action m.from ≡ true) × (1 ≤ count_by (λ x. x == row) to) = ih k in let l : 1 ≤ count_by (λ x. x == row) to = u.2 in (u.0, u.1, omega (arith, l, count_cons (λ x. x == row) r to))

is_given : (kept : ℕ → ℕ → Bool) (m : Move) (row : ℕ) (to : List ℕ) → kept m.action m.from ≡ true → 1 ≤ count_by (λ r. r == row) to → InPrints row (Given m.action m.from) (gives_of kept m to)
is_given kept m row [] k h = absurd (omega arith)
is_given kept m row (r ∷ to) k h = at (r == row) refl (is_given kept m row to k)
  where
    at : (b : Bool) → (r == row) ≡ b → (1 ≤ count_by (λ x. x == row) to → InPrints row (Given m.action m.from) (gives_of kept m to)) → InPrints row (Given m.action m.from) (cond (kept m.action m.from) (record { row = r; change = Given m.action m.from } ∷ []) [] ++ gives_of kept m to)
    at true q ih = prints_left row (Given m.action m.from) (cond (kept m.action m.from) (record { row = r; change = Given m.action m.from } ∷ []) []) (gives_of kept m to) (rw k (inl (eqb-true r row q, refl)))
    at false q ih = prints_right row (Given m.action m.from) (cond (kept m.action m.from) (record { row = r; change = Given m.action m.from } ∷ []) []) (gives_of kept m to) (ih (omega (arith, h, count_cons (λ x. x == row) r to, bit_no (r == row) q)))

some_goes : (n : ℕ) → 1 ≤ n → nat_lt 0 n ≡ true
some_goes n h = grind (arith, h)

goes_some : (n : ℕ) → nat_lt 0 n ≡ true → 1 ≤ n
goes_some n h = grind (arith, h)

below_apart : (a b : ℕ) → a < b → (a == b) ≡ false
below_apart a b h = grind (arith, h)

-- what a move prints for a row is its touch of the row
print_touch : (kept : ℕ → ℕ → Bool) (row : ℕ) (m : Move) → Climbs (λ r. r) m → (c : Change) → InPrints row c (prints_of kept m) → IsAmong c (touch kept row m)
print_touch kept row m climbs c (inl q) = rw (ap (λ z. z == row) q.0 ∙ eq_self row) (inl q.1)
print_touch kept row m climbs c (inr h) =
    let g : (Given m.action m.from ≡ c) × (kept m.action m.from ≡ true) × (1 ≤ count_by (λ r. r == row) m.to) = given_is kept m row c m.to h in
    let goes : goes_to row m.to ≡ true = some_goes (count_by (λ r. r == row) m.to) g.2 in
    let low : m.from < row = climbs row goes in
    rw (below_apart m.from row low, goes, g.1) (inl g.0)

touch_print : (kept : ℕ → ℕ → Bool) (row : ℕ) (m : Move) (c : Change) → IsAmong c (touch kept row m) → InPrints row c (prints_of kept m)
touch_print kept row m c h = at (m.from == row) (goes_to row m.to) (kept m.action m.from) refl refl refl h
  where
    at : (a b d : Bool) → (m.from == row) ≡ a → goes_to row m.to ≡ b → kept m.action m.from ≡ d → IsAmong c (cond {A = List Change} a (Taken m.action ∷ []) (cond (b && d) (Given m.action m.from ∷ []) [])) → InPrints row c (prints_of kept m)
    at true b d p q r (inl e) = inl (eqb-true m.from row p, e)
    at true b d p q r (inr e) = absurd e
    at false true true p q r (inl e) = inr (subst (λ x. InPrints row x (gives_of kept m m.to)) e (is_given kept m row m.to r (goes_some (count_by (λ x. x == row) m.to) q)))
    at false true true p q r (inr e) = absurd e
    at false true false p q r e = absurd e
    at false false d p q r e = absurd e

prints_touches : (kept : ℕ → ℕ → Bool) (row : ℕ) (ms : List Move) → InOrder (λ r. r) ms → (c : Change) → InPrints row c (prints_all kept ms) → IsAmong c (touches kept row ms)
prints_touches kept row [] o c h = h
prints_touches kept row (m ∷ ms) o c h = by (prints_joined row c (prints_of kept m) (prints_all kept ms) h) (prints_touches kept row ms o.2 c)
  where
    by : InPrints row c (prints_of kept m) ⊎ InPrints row c (prints_all kept ms) → (InPrints row c (prints_all kept ms) → IsAmong c (touches kept row ms)) → IsAmong c (touch kept row m ++ touches kept row ms)
    by (inl k) ih = among_left c (touch kept row m) (touches kept row ms) (print_touch kept row m o.0 c k)
    by (inr k) ih = among_right c (touch kept row m) (touches kept row ms) (ih k)

touches_prints : (kept : ℕ → ℕ → Bool) (row : ℕ) (ms : List Move) (c : Change) → IsAmong c (touches kept row ms) → InPrints row c (prints_all kept ms)
touches_prints kept row [] c h = h
touches_prints kept row (m ∷ ms) c h = by (among_joined c (touch kept row m) (touches kept row ms) h) (touches_prints kept row ms c)
  where
    by : IsAmong c (touch kept row m) ⊎ IsAmong c (touches kept row ms) → (IsAmong c (touches kept row ms) → InPrints row c (prints_all kept ms)) → InPrints row c (prints_of kept m ++ prints_all kept ms)
    by (inl k) ih = prints_left row c (prints_of kept m) (prints_all kept ms) (touch_print kept row m c k)
    by (inr k) ih = prints_right row c (prints_of kept m) (prints_all kept ms) (ih k)

touches_joined : (kept : ℕ → ℕ → Bool) (row : ℕ) (xs ys : List Move) (c : Change) → IsAmong c (touches kept row (xs ++ ys)) → IsAmong c (touches kept row xs) ⊎ IsAmong c (touches kept row ys)
touches_joined kept row [] ys c h = inr h
touches_joined kept row (x ∷ xs) ys c h = by (among_joined c (touch kept row x) (touches kept row (xs ++ ys)) h) (touches_joined kept row xs ys c)
  where
    on : IsAmong c (touches kept row xs) ⊎ IsAmong c (touches kept row ys) → IsAmong c (touch kept row x ++ touches kept row xs) ⊎ IsAmong c (touches kept row ys)
    on (inl k) = inl (among_right c (touch kept row x) (touches kept row xs) k)
    on (inr k) = inr k

    by : IsAmong c (touch kept row x) ⊎ IsAmong c (touches kept row (xs ++ ys)) → (IsAmong c (touches kept row (xs ++ ys)) → IsAmong c (touches kept row xs) ⊎ IsAmong c (touches kept row ys)) → IsAmong c (touch kept row x ++ touches kept row xs) ⊎ IsAmong c (touches kept row ys)
    by (inl k) ih = inl (among_left c (touch kept row x) (touches kept row xs) k)
    by (inr k) ih = on (ih k)

touches_left : (kept : ℕ → ℕ → Bool) (row : ℕ) (xs ys : List Move) (c : Change) → IsAmong c (touches kept row xs) → IsAmong c (touches kept row (xs ++ ys))
touches_left kept row [] ys c h = absurd h
touches_left kept row (x ∷ xs) ys c h = by (among_joined c (touch kept row x) (touches kept row xs) h) (touches_left kept row xs ys c)
  where
    by : IsAmong c (touch kept row x) ⊎ IsAmong c (touches kept row xs) → (IsAmong c (touches kept row xs) → IsAmong c (touches kept row (xs ++ ys))) → IsAmong c (touch kept row x ++ touches kept row (xs ++ ys))
    by (inl k) ih = among_left c (touch kept row x) (touches kept row (xs ++ ys)) k
    by (inr k) ih = among_right c (touch kept row x) (touches kept row (xs ++ ys)) (ih k)

touches_right : (kept : ℕ → ℕ → Bool) (row : ℕ) (xs ys : List Move) (c : Change) → IsAmong c (touches kept row ys) → IsAmong c (touches kept row (xs ++ ys))
touches_right kept row [] ys c h = h
touches_right kept row (x ∷ xs) ys c h = among_right c (touch kept row x) (touches kept row (xs ++ ys)) (touches_right kept row xs ys c h)

-- printed and standing
move_kind : (action : ℕ) (k : Kind) → IsMove (as_change action k) → (is_move k ≡ true) × (action_of (as_change action k) ≡ action)
move_kind action (Adds es) m = absurd m
move_kind action Takes m = (refl, refl)
move_kind action (Gives r) m = (refl, refl)

stands_printed : (lines : List Tagged) (row v : ℕ) (c : Change) → Stands lines row v c → IsMove c → InPrints row c (printed_by lines (action_of c))
stands_printed [] row v c h m = h
stands_printed (l ∷ ls) row v c (inr h) m = prints_right row c (cond (is_move l.kind && (l.action == action_of c)) (record { row = l.row; change = change_of l } ∷ []) []) (printed_by ls (action_of c)) (stands_printed ls row v c h m)
stands_printed (l ∷ ls) row v c (inl q) m =
    let k : (is_move l.kind ≡ true) × (action_of (change_of l) ≡ l.action) = move_kind l.action l.kind (subst IsMove (sym q.1) m) in
    let a : l.action ≡ action_of c = sym k.1 ∙ ap action_of q.1 in
    prints_left row c (cond (is_move l.kind && (l.action == action_of c)) (record { row = l.row; change = change_of l } ∷ []) []) (printed_by ls (action_of c))
    (rw (and_from (is_move l.kind) (l.action == action_of c) k.0 (ap (λ z. z == action_of c) a ∙ eq_self (action_of c))) (inl (eqb-true l.row row (and_first (l.row == row) (l.version == v) q.0), q.1)))

printed_stands : (lines : List Tagged) (n row : ℕ) (c : Change) → InPrints row c (printed_by lines n) → (v : ℕ) × Stands lines row v c
printed_stands [] n row c h = absurd h
printed_stands (l ∷ ls) n row c h = by (prints_joined row c (cond (is_move l.kind && (l.action == n)) (record { row = l.row; change = change_of l } ∷ []) []) (printed_by ls n) h) (printed_stands ls n row c)
  where
    here : (b : Bool) → InPrints row c (cond b (record { row = l.row; change = change_of l } ∷ []) []) → (v : ℕ) × Stands (l ∷ ls) row v c
    here true (inl e) = (l.version, inl (and_from (l.row == row) (l.version == l.version) (ap (λ z. z == row) e.0 ∙ eq_self row) (eq_self l.version), e.1))
    here true (inr e) = absurd e
    here false e = absurd e

    by : InPrints row c (cond (is_move l.kind && (l.action == n)) (record { row = l.row; change = change_of l } ∷ []) []) ⊎ InPrints row c (printed_by ls n) → (InPrints row c (printed_by ls n) → (v : ℕ) × Stands ls row v c) → (v : ℕ) × Stands (l ∷ ls) row v c
    by (inl k) ih = here (is_move l.kind && (l.action == n)) k
    by (inr k) ih = let r : (v : ℕ) × Stands ls row v c = ih k in (r.0, inr r.1)

-- for one row, the rows taken rise along what is printed
abbrev pub AllAbove : ℕ → ℕ → List Print → Type 0
AllAbove row source [] = Unit {0}
AllAbove row source (p ∷ ps) = (p.row ≡ row → source < source_of row p.change) × AllAbove row source ps

abbrev pub Ordered : ℕ → List Print → Type 0
Ordered row [] = Unit {0}
Ordered row (p ∷ ps) = (p.row ≡ row → AllAbove row (source_of row p.change) ps) × Ordered row ps

above_in : (row source : ℕ) (ps : List Print) (c : Change) → AllAbove row source ps → InPrints row c ps → source < source_of row c
above_in row source [] c a h = absurd h
above_in row source (p ∷ ps) c a (inl q) = subst (λ d. source < source_of row d) q.1 (a.0 q.0)
above_in row source (p ∷ ps) c a (inr h) = above_in row source ps c a.1 h

ordered_right : (row : ℕ) (xs ys : List Print) → Ordered row (xs ++ ys) → Ordered row ys
ordered_right row [] ys o = o
ordered_right row (x ∷ xs) ys o = ordered_right row xs ys o.1

above_by : (row source : ℕ) (ps : List Print) → ((c : Change) → InPrints row c ps → source < source_of row c) → AllAbove row source ps
above_by row source [] h = tt
above_by row source (p ∷ ps) h = ((λ e. h p.change (inl (e, refl))), above_by row source ps (λ c k. h c (inr k)))

above_of : (l : Tagged) (ls : List Tagged) (row v : ℕ) (c : Change) (by : ℕ → ℕ) (n : ℕ) → Above l ls → AreBy by ls → l.session ≡ by n → l.row ≡ row → Stands ls row v c → IsMove c → action_of c ≡ n → l.version < v
above_of l [] row v c by n a b s r h m q = absurd h
above_of l (x ∷ ls) row v c by n a b s r (inr h) m q = above_of l ls row v c by n a.1 b.1 s r h m q
above_of l (x ∷ ls) row v c by n a b s r (inl h) m q =
    let k : (is_move x.kind ≡ true) × (action_of (change_of x) ≡ x.action) = move_kind x.action x.kind (subst IsMove (sym h.1) m) in
    let act : x.action ≡ n = sym k.1 ∙ (ap action_of h.1 ∙ q) in
    let xr : x.row ≡ row = eqb-true x.row row (and_first (x.row == row) (x.version == v) h.0) in
    let xv : x.version ≡ v = eqb-true x.version v (and_second (x.row == row) (x.version == v) h.0) in
    let xs : x.session ≡ by n = b.0 k.0 ∙ ap by act in
    let less : l.version < x.version = a.0 (s ∙ sym xs) (r ∙ sym xr) in
    omega arith

order_in : (by : ℕ → ℕ) (ls : List Tagged) (row n : ℕ) → Rises ls → AreBy by ls → Ordered row (printed_by ls n) → (low high : ℕ) (c d : Change) → low < high → Stands ls row low c → Stands ls row high d → IsMove c → IsMove d → action_of c ≡ n → action_of d ≡ n → source_of row c < source_of row d
order_in by [] row n r b o low high c d l s t m k p q = absurd s
order_in by (x ∷ ls) row n r b o low high c d l (inl s) (inl t) m k p q =
    absurd (let e : x.version ≡ low = eqb-true x.version low (and_second (x.row == row) (x.version == low) s.0) in let f : x.version ≡ high = eqb-true x.version high (and_second (x.row == row) (x.version == high) t.0) in omega arith)
order_in by (x ∷ ls) row n r b o low high c d l (inr s) (inr t) m k p q = order_in by ls row n r.1 b.1 (ordered_right row (cond (is_move x.kind && (x.action == n)) (record { row = x.row; change = change_of x } ∷ []) []) (printed_by ls n) o) low high c d l s t m k p q
order_in by (x ∷ ls) row n r b o low high c d l (inr s) (inl t) m k p q =
    absurd
    (let e : (is_move x.kind ≡ true) × (action_of (change_of x) ≡ x.action) = move_kind x.action x.kind (subst IsMove (sym t.1) k) in
    let act : x.action ≡ n = sym e.1 ∙ (ap action_of t.1 ∙ q) in
    let xr : x.row ≡ row = eqb-true x.row row (and_first (x.row == row) (x.version == high) t.0) in
    let xv : x.version ≡ high = eqb-true x.version high (and_second (x.row == row) (x.version == high) t.0) in
    let less : x.version < low = above_of x ls row low c by n r.0 b.1 (b.0 e.0 ∙ ap by act) xr s m p in
    omega arith)
order_in by (x ∷ ls) row n r b o low high c d l (inl s) (inr t) m k p q =
    let e : (is_move x.kind ≡ true) × (action_of (change_of x) ≡ x.action) = move_kind x.action x.kind (subst IsMove (sym s.1) m) in
    let act : x.action ≡ n = sym e.1 ∙ (ap action_of s.1 ∙ p) in
    let xr : x.row ≡ row = eqb-true x.row row (and_first (x.row == row) (x.version == low) s.0) in
    let yes : (is_move x.kind && (x.action == n)) ≡ true = and_from (is_move x.kind) (x.action == n) e.0 (ap (λ z. z == n) act ∙ eq_self n) in
    let o2 : Ordered row (record { row = x.row; change = change_of x } ∷ printed_by ls n) = subst (λ z. Ordered row (cond z (record { row = x.row; change = change_of x } ∷ []) [] ++ printed_by ls n)) yes o in
    let a : AllAbove row (source_of row (change_of x)) (printed_by ls n) = o2.0 xr in
    let there : InPrints row d (printed_by ls n) = subst (λ z. InPrints row d (printed_by ls z)) q (stands_printed ls row high d t k) in
    subst (λ z. source_of row z < source_of row d) s.1 (above_in row (source_of row (change_of x)) (printed_by ls n) d a there)

-- the moves of one action, each of which gives a row at most once
abbrev pub Alike : ℕ → List Move → Type 0
Alike n [] = Unit {0}
Alike n (m ∷ ms) = (m.action ≡ n) × Alike n ms

abbrev pub GiveOnce : List Move → Type 0
GiveOnce [] = Unit {0}
GiveOnce (m ∷ ms) = ((row : ℕ) → count_by (λ r. r == row) m.to ≤ 1) × GiveOnce ms

later_from : (m x : Move) → IsLater (λ r. r) m x → m.action ≡ x.action → m.from < x.from
later_from m x (inl l) e = absurd (omega arith)
later_from m x (inr l) e = at (m.from == x.from) refl
  where
    less : (a b : ℕ) → (a == b) ≡ false → a ≤ b → a < b
    less a b q h = grind (arith, q, h)

    at : (b : Bool) → (m.from == x.from) ≡ b → m.from < x.from
    at true q = absurd (l.2 (eqb-true m.from x.from q))
    at false q = less m.from x.from q l.1

sources : (kept : ℕ → ℕ → Bool) (row n : ℕ) (m : Move) (ms : List Move) → m.action ≡ n → Alike n ms → AllLater (λ r. r) m ms → (c : Change) → InPrints row c (prints_all kept ms) → m.from < source_of row c
sources kept row n m [] e a l c h = absurd h
sources kept row n m (x ∷ ms) e a l c h = by (prints_joined row c (prints_of kept x) (prints_all kept ms) h) (sources kept row n m ms e a.1 l.1 c)
  where
    low : m.from < x.from
    low = later_from m x l.0 (e ∙ sym a.0)

    one : InPrints row c (prints_of kept x) → m.from < source_of row c
    one (inl q) = subst (λ d. m.from < source_of row d) q.1 (subst (λ r. m.from < r) q.0 low)
    one (inr k) = subst (λ d. m.from < source_of row d) (given_is kept x row c x.to k).0 low

    by : InPrints row c (prints_of kept x) ⊎ InPrints row c (prints_all kept ms) → (InPrints row c (prints_all kept ms) → m.from < source_of row c) → m.from < source_of row c
    by (inl k) ih = one k
    by (inr k) ih = ih k

ordered_gives : (kept : ℕ → ℕ → Bool) (row : ℕ) (m : Move) (to : List ℕ) (rest : List Print) → ((r : ℕ) → count_by (λ x. x == r) to ≤ 1) → ((c : Change) → InPrints row c rest → m.from < source_of row c) → Ordered row rest → Ordered row (gives_of kept m to ++ rest)
ordered_gives kept row m [] rest once above o = o
ordered_gives kept row m (r ∷ to) rest once above o =
    at (kept m.action m.from) (ordered_gives kept row m to rest (λ x. (let l : count_by (λ y. y == x) (r ∷ to) ≤ 1 = once x in omega (arith, l, count_cons (λ y. y == x) r to))) above o)
  where
    at : (b : Bool) → Ordered row (gives_of kept m to ++ rest) → Ordered row ((cond b (record { row = r; change = Given m.action m.from } ∷ []) [] ++ gives_of kept m to) ++ rest)
    at false ih = ih
    at true ih = ((λ e. above_by row m.from (gives_of kept m to ++ rest) (λ c h. one e c (prints_joined row c (gives_of kept m to) rest h))), ih)
      where
        one : r ≡ row → (c : Change) → InPrints row c (gives_of kept m to) ⊎ InPrints row c rest → m.from < source_of row c
        one e c (inr h) = above c h
        one e c (inl h) = absurd (let g : 1 ≤ count_by (λ x. x == row) to = (given_is kept m row c to h).2 in let l : count_by (λ x. x == row) (r ∷ to) ≤ 1 = once row in omega (arith, g, l, count_cons (λ x. x == row) r to, bit_yes (r == row) (ap (λ z. z == row) e ∙ eq_self row)))

pub ordered_all : (kept : ℕ → ℕ → Bool) (row n : ℕ) (ms : List Move) → InOrder (λ r. r) ms → Alike n ms → GiveOnce ms → Ordered row (prints_all kept ms)
ordered_all kept row n [] o a g = tt
ordered_all kept row n (m ∷ ms) o a g = (
  (λ e. above_by row row (gives_of kept m m.to ++ prints_all kept ms) (λ c h. first e c (prints_joined row c (gives_of kept m m.to) (prints_all kept ms) h))),
  ordered_gives kept row m m.to (prints_all kept ms) g.0 (λ c h. sources kept row n m ms a.0 a.1 o.1 c h) (ordered_all kept row n ms o.2 a.1 g.1),
)
  where
    first : m.from ≡ row → (c : Change) → InPrints row c (gives_of kept m m.to) ⊎ InPrints row c (prints_all kept ms) → row < source_of row c
    first e c (inr h) = subst (λ r. r < source_of row c) e (sources kept row n m ms a.0 a.1 o.1 c h)
    first e c (inl h) = absurd (let low : m.from < row = o.0 row (some_goes (count_by (λ r. r == row) m.to) (given_is kept m row c m.to h).2) in omega arith)

module _ (kept : ℕ → ℕ → Bool) (holder : ℕ → ℕ → Option Owner) (takes : ℕ → ℕ → Bool) (rows : List ℕ) (last : ℕ)
    (order : (n : ℕ) → InOrder (λ r. r) (moves_of holder takes n rows)) (alike : (n : ℕ) → Alike n (moves_of holder takes n rows)) (give_once : (n : ℕ) → GiveOnce (moves_of holder takes n rows)) where
  of_all : (n : ℕ) → 1 ≤ n → (more : ℕ) → n ≤ more → (row : ℕ) (c : Change) → IsAmong c (touches kept row (moves_of holder takes n rows)) → IsAmong c (touches kept row (moves_to holder takes rows more))
  of_all n l zero h row c k = absurd (omega arith)
  of_all n l (suc more) h row c k = at (n == suc more) refl (λ low. of_all n l more low row c k)
    where
      less : (a b : ℕ) → a ≤ suc b → (a == suc b) ≡ false → a ≤ b
      less a b l q = grind (arith, l, q)

      at : (b : Bool) → (n == suc more) ≡ b → (n ≤ more → IsAmong c (touches kept row (moves_to holder takes rows more))) → IsAmong c (touches kept row (moves_to holder takes rows more ++ moves_of holder takes (suc more) rows))
      at true q ih = touches_right kept row (moves_to holder takes rows more) (moves_of holder takes (suc more) rows) c (subst (λ z. IsAmong c (touches kept row (moves_of holder takes z rows))) (eqb-true n (suc more) q) k)
      at false q ih = touches_left kept row (moves_to holder takes rows more) (moves_of holder takes (suc more) rows) c (ih (less n more h q))

  from_all : (more row : ℕ) (c : Change) → IsAmong c (touches kept row (moves_to holder takes rows more)) → (n : ℕ) × IsAmong c (touches kept row (moves_of holder takes n rows))
  from_all zero row c h = absurd h
  from_all (suc more) row c h = by (touches_joined kept row (moves_to holder takes rows more) (moves_of holder takes (suc more) rows) c h) (from_all more row c)
    where
      by : IsAmong c (touches kept row (moves_to holder takes rows more)) ⊎ IsAmong c (touches kept row (moves_of holder takes (suc more) rows)) → (IsAmong c (touches kept row (moves_to holder takes rows more)) → (n : ℕ) × IsAmong c (touches kept row (moves_of holder takes n rows))) → (n : ℕ) × IsAmong c (touches kept row (moves_of holder takes n rows))
      by (inl k) ih = ih k
      by (inr k) ih = (suc more, k)

  -- the rules in the order of print are those of chains
  pub acted_chained : (lines : List Tagged) → AreActed kept (λ n. moves_of holder takes n rows) last lines → AreChained kept (moves_to holder takes rows last) lines
  acted_chained lines a = record {
    low = a.low;
    within = a.within;
    once = a.once;
    never_fall = a.never_fall;
    in_order = λ row low high c d l s t m k e. order_in a.by lines row (action_of c) a.rises a.are_by
        (subst (Ordered row) (sym (a.asks (action_of c))) (ordered_all kept row (action_of c) (moves_of holder takes (action_of c) rows) (order (action_of c)) (alike (action_of c)) (give_once (action_of c)))) low high c d l s t m k refl (sym e);
    asked = λ row v c s m.
        (let n : (1 ≤ action_of c) × (action_of c ≤ last) = a.numbers row v c s m in
        of_all (action_of c) n.0 last n.1 row c (prints_touches kept row (moves_of holder takes (action_of c) rows) (order (action_of c)) c (subst (InPrints row c) (a.asks (action_of c)) (stands_printed lines row v c s m))));
    printed = λ row c h.
        (let n : (n : ℕ) × IsAmong c (touches kept row (moves_of holder takes n rows)) = from_all last row c h in
        printed_stands lines n.0 row c (subst (InPrints row c) (sym (a.asks n.0)) (touches_prints kept row (moves_of holder takes n.0 rows) c n.1)));
  }
