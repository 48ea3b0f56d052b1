-- The tickets of all actors, in an order of their own: of each kind 0, 1 and so on.
use Rattle.std.proofs.Common.{ℕ, zero, suc, ◌≡◌, ◌≢◌, ◌⊎◌, ◌+◌, ◌==◌, ◌<◌, ◌≤◌, nat_lt, ◌&&◌, Bool, true, false, cond, List, [], ◌∷◌, ◌++◌, refl, ap, sym, ◌∙◌, inl, inr, arith, eq-eqb, ne_eqb, append_assoc, zero-add}
use Rattle.std.proofs.lemmas.Bool.{cases_eq, eqb-true, and_parts}
use Rattle.std.proofs.lemmas.Bool.Decides.{nat_tests}
use Rattle.pfs_lemmas.proofs.Numbers.{eq_swap}
use Rattle.pfs_levels.specs.Calls.{Call, Adds, Rings, Reads, Loads, Draws, Takes, Puts, Frees, Sets, Enters, Leaves, Meets, Start}
use Rattle.pfs_levels.specs.JointCalls.{total, one_if, Draw, draws_by, draws_of, drawn, AreDrawn, all_calls}
use Rattle.pfs_board_store.specs.RootActors.{Worked, calls_of_all, AreParts}
use Rattle.pfs_board_store.specs.Ties as ties
use Rattle.pfs_board_store.proofs.ListSums.{total_one, total_nil, same_sums}
use Rattle.pfs_tickets.specs.declared.view.Drawn.{Drawn}
use Rattle.pfs_tickets.specs.declared.view.View.{View}
use Rattle.pfs_tickets.specs.History.{Each, count_of, times}
use Rattle.pfs_tickets.specs.WholeSeats.{IsComplete}

abbrev pub draw : ℕ → ℕ → Draw
draw k t = record { kind = k; ticket = t }

-- what a seat drew
abbrev draws_in : List Drawn → List Draw
draws_in [] = []
draws_in (x ∷ xs) = draw x.kind x.ticket ∷ draws_in xs

tied_draws : (start : Start) (calls : List Call) (tickets : List Drawn) → ties.AreDrawn start calls tickets → draws_of calls ≡ draws_in tickets
unfolding draws_of
tied_draws start [] tickets d = sym (ap draws_in d)
tied_draws start (Draws kind ticket ∷ calls) [] d = absurd d
tied_draws start (Draws kind ticket ∷ calls) (x ∷ tickets) d = ap (λ z. draw z ticket ∷ draws_of calls) (sym d.1) ∙ ap (λ z. draw x.kind z ∷ draws_of calls) (sym d.2) ∙ ap (λ z. draw x.kind x.ticket ∷ z) (tied_draws start calls tickets d.3)
tied_draws start (Meets versions ∷ calls) tickets d = tied_draws start calls tickets d
tied_draws start (Adds row amount answer ∷ calls) tickets d = tied_draws start calls tickets d
tied_draws start (Rings row content answer ∷ calls) tickets d = tied_draws start calls tickets d
tied_draws start (Reads row seen ∷ calls) tickets d = tied_draws start calls tickets d
tied_draws start (Loads at version flags ∷ calls) tickets d = tied_draws start calls tickets d
tied_draws start (Takes row version found ∷ calls) tickets d = tied_draws start calls tickets d
tied_draws start (Puts row content version ∷ calls) tickets d = tied_draws start calls tickets d
tied_draws start (Frees row version ∷ calls) tickets d = tied_draws start calls tickets d
tied_draws start (Sets at flags version ∷ calls) tickets d = tied_draws start calls tickets d
tied_draws start (Enters label labels ∷ calls) tickets d = tied_draws start calls tickets d
tied_draws start (Leaves ∷ calls) tickets d = tied_draws start calls tickets d

draws_append : (xs ys : List Call) → draws_of (xs ++ ys) ≡ draws_of xs ++ draws_of ys
unfolding draws_of
draws_append [] ys = refl
draws_append (x ∷ xs) ys = ap (λ z. draws_by x ++ z) (draws_append xs ys) ∙ sym (append_assoc (draws_by x) (draws_of xs) (draws_of ys))

in_append : (xs ys : List Drawn) → draws_in (xs ++ ys) ≡ draws_in xs ++ draws_in ys
in_append [] ys = refl
in_append (x ∷ xs) ys = ap (λ z. draw x.kind x.ticket ∷ z) (in_append xs ys)

abbrev pub Tied : Worked → List Drawn → Type 0
Tied a tickets = ties.AreDrawn a.start.tickets a.calls tickets

all_draws : (actors : List Worked) (tickets : List Drawn) → AreParts Tied actors tickets → draws_of (all_calls (calls_of_all actors)) ≡ draws_in tickets
unfolding all_calls draws_of
all_draws [] tickets g = sym (ap draws_in g)
all_draws (a ∷ actors) tickets g =
    draws_append a.calls (all_calls (calls_of_all actors)) ∙ ap (λ z. z ++ draws_of (all_calls (calls_of_all actors))) (tied_draws a.start.tickets a.calls g.0 g.3)
    ∙ ap (λ z. draws_in g.0 ++ z) (all_draws actors g.1 g.4) ∙ sym (in_append g.0 g.1) ∙ sym (ap draws_in g.2)

-- so many tickets of a kind, and of each kind below k
unfoldable pub of_kind : ℕ → ℕ → List Draw
of_kind k zero = []
of_kind k (suc n) = draw k n ∷ of_kind k n

unfoldable pub kinds_below : (ℕ → ℕ) → ℕ → List Draw
kinds_below f zero = []
kinds_below f (suc k) = of_kind k (f k) ++ kinds_below f k

drawn_here : (k n : ℕ) (ds : List Draw) → drawn (of_kind k n ++ ds) k ≡ n + drawn ds k
unfolding of_kind drawn
drawn_here k zero ds = sym (zero-add (drawn ds k))
drawn_here k (suc n) ds = rw (eq-eqb k k refl) (omega (arith, drawn_here k n ds))

drawn_other : (k j n : ℕ) (ds : List Draw) → k ≢ j → drawn (of_kind k n ++ ds) j ≡ drawn ds j
unfolding of_kind drawn
drawn_other k j zero ds e = refl
drawn_other k j (suc n) ds e = rw (ne_eqb k j e) (drawn_other k j n ds e)

none_drawn : (j : ℕ) → drawn [] j ≡ 0
unfolding drawn
none_drawn j = refl

none_yet : (f : ℕ → ℕ) (k j : ℕ) → k ≤ j → drawn (kinds_below f k) j ≡ 0
unfolding kinds_below
none_yet f zero j e = none_drawn j
none_yet f (suc k) j e = drawn_other k j (f k) (kinds_below f k) (λ z. absurd (omega (arith, e, z))) ∙ none_yet f k j (omega (arith, e))

kind_drawn : (k n : ℕ) (ds : List Draw) → drawn ds k ≡ 0 → AreDrawn ds → AreDrawn (of_kind k n ++ ds)
unfolding of_kind
kind_drawn k zero ds none d = d
kind_drawn k (suc n) ds none d = (omega (arith, none, drawn_here k n ds), kind_drawn k n ds none d)

pub are_drawn : (f : ℕ → ℕ) (k : ℕ) → AreDrawn (kinds_below f k)
unfolding kinds_below
are_drawn f zero = tt
are_drawn f (suc k) = kind_drawn k (f k) (kinds_below f k) (none_yet f k k (omega arith)) (are_drawn f k)

-- two draws are the same
abbrev same : Draw → Draw → Bool
same a b = (a.kind == b.kind) && (a.ticket == b.ticket)

same_is : (a b : Draw) → same a b ≡ true → a ≡ b
same_is a b e =
    let x = and_parts (a.kind == b.kind) (a.ticket == b.ticket) e in
    let k : a.kind ≡ b.kind = eqb-true a.kind b.kind x.0 in
    let t : a.ticket ≡ b.ticket = eqb-true a.ticket b.ticket x.1 in
    λ i. record { kind = k i; ticket = t i }

same_self : (a : Draw) → same a a ≡ true
same_self a = rw (eq-eqb a.kind a.kind refl, eq-eqb a.ticket a.ticket refl) refl

abbrev stands : Draw → List Draw → ℕ
stands a xs = total (λ x. one_if (same a x)) xs

times_is : (a : Draw) (xs : List Drawn) → stands a (draws_in xs) ≡ times a.kind a.ticket xs
times_is a [] = total_nil (λ x. one_if (same a x))
times_is a (x ∷ xs) = total_one (λ z. one_if (same a z)) (draw x.kind x.ticket) (draws_in xs) ∙ rw (eq_swap a.kind x.kind, eq_swap a.ticket x.ticket, times_is a xs) (step (x.kind == a.kind) (x.ticket == a.ticket) (times a.kind a.ticket xs)) where
  step : (b c : Bool) (n : ℕ) → one_if (b && c) + n ≡ cond b (cond c (n + 1) n) n
  step true true n = omega arith
  step true false n = omega arith
  step false c n = omega arith

in_kind : (a : Draw) (k n : ℕ) (ds : List Draw) → stands a (of_kind k n ++ ds) ≡ one_if ((a.kind == k) && nat_lt a.ticket n) + stands a ds
unfolding of_kind
in_kind a k zero ds = none (a.kind == k) a.ticket where
  none : (b : Bool) (t : ℕ) → stands a ds ≡ one_if (b && nat_lt t 0) + stands a ds
  none true t = grind (arith, nat_tests)
  none false t = omega arith
in_kind a k (suc n) ds = total_one (λ z. one_if (same a z)) (draw k n) (of_kind k n ++ ds) ∙ ap (λ m. one_if (same a (draw k n)) + m) (in_kind a k n ds) ∙ step (a.kind == k) a.ticket n (stands a ds) where
  step : (b : Bool) (t n m : ℕ) → one_if (b && (t == n)) + (one_if (b && nat_lt t n) + m) ≡ one_if (b && nat_lt t (suc n)) + m
  step true t n m = grind (arith, nat_tests)
  step false t n m = omega arith

in_kinds : (f : ℕ → ℕ) (a : Draw) (k : ℕ) → stands a (kinds_below f k) ≡ one_if (nat_lt a.kind k && nat_lt a.ticket (f a.kind))
unfolding kinds_below
in_kinds f a zero = total_nil (λ x. one_if (same a x)) ∙ none a.kind (nat_lt a.ticket (f a.kind)) where
  none : (n : ℕ) (b : Bool) → (let z : ℕ = 0 in z ≡ one_if (nat_lt n 0 && b))
  none n b = grind (arith, nat_tests)
in_kinds f a (suc k) = in_kind a k (f k) (kinds_below f k) ∙ ap (λ m. one_if ((a.kind == k) && nat_lt a.ticket (f k)) + m) (in_kinds f a k) ∙ elim (cases_eq a.kind k) [
  | inl e ↦ rw (eq-eqb a.kind k e) (last e)
  | inr e ↦ rw (ne_eqb a.kind k e) (before (nat_lt a.ticket (f a.kind)) e)
] where
  last : a.kind ≡ k → one_if (nat_lt a.ticket (f k)) + one_if (nat_lt a.kind k && nat_lt a.ticket (f a.kind)) ≡ one_if (nat_lt a.kind (suc k) && nat_lt a.ticket (f a.kind))
  last e = let lo : nat_lt a.kind k ≡ false = grind (arith, nat_tests) in let hi : nat_lt a.kind (suc k) ≡ true = grind (arith, nat_tests) in let g : f k ≡ f a.kind = ap f (sym e) in rw (lo, hi, g) (omega arith)

  before : (b : Bool) → a.kind ≢ k → 0 + one_if (nat_lt a.kind k && b) ≡ one_if (nat_lt a.kind (suc k) && b)
  before b e = let g : nat_lt a.kind k ≡ nat_lt a.kind (suc k) = grind (arith, nat_tests) in rw g (omega arith)

-- of a kind that no ticket has
no_times : (k t : ℕ) (xs : List Drawn) → 4 ≤ k → Each (λ (x : Drawn). x.kind < 4) xs → times k t xs ≡ 0
no_times k t [] up e = refl
no_times k t (x ∷ xs) up e = rw (ne_eqb x.kind k (λ z. absurd (omega (arith, z, up, e.0)))) (no_times k t xs up e.1)

pub lt_cases : (a b : ℕ) → ((a < b) × (nat_lt a b ≡ true)) ⊎ ((b ≤ a) × (nat_lt a b ≡ false))
lt_cases a b = at (nat_lt a b) refl where
  at : (c : Bool) → nat_lt a b ≡ c → ((a < b) × (nat_lt a b ≡ true)) ⊎ ((b ≤ a) × (nat_lt a b ≡ false))
  at true e = inl (grind (arith, nat_tests), e)
  at false e = inr (grind (arith, nat_tests), e)

pub no_and : (b : Bool) → one_if (b && false) ≡ 0
no_and true = refl
no_and false = refl

abbrev pub counted : View → ℕ → ℕ
counted t k = count_of k t.tickets

how_often : (t : View) → IsComplete t → (a : Draw) → times a.kind a.ticket t.tickets ≡ one_if (nat_lt a.kind 4 && nat_lt a.ticket (count_of a.kind t.tickets))
how_often t c a = elim (lt_cases a.kind 4) [
  | inl k ↦ elim (lt_cases a.ticket (count_of a.kind t.tickets)) [
    | inl n ↦ c.once a.kind a.ticket k.0 n.0 ∙ sym (rw (k.1, n.1) refl)
    | inr n ↦ c.never a.kind a.ticket k.0 n.0 ∙ sym (rw n.1 (no_and (nat_lt a.kind 4)))
  ]
  | inr k ↦ no_times a.kind a.ticket t.tickets k.0 c.kinds ∙ sym (rw k.1 refl)
]

-- the order of the tickets
abbrev pub tickets_of : View → List Draw
tickets_of t = kinds_below (counted t) 4

each_drawn : (t : View) → IsComplete t → (h : Draw → ℕ) → total h (draws_in t.tickets) ≡ total h (tickets_of t)
each_drawn t c = same_sums Draw same same_is same_self (draws_in t.tickets) (tickets_of t) (λ a. times_is a t.tickets ∙ how_often t c a ∙ sym (in_kinds (counted t) a 4))

pub draws_once : (actors : List Worked) (t : View) → AreParts Tied actors t.tickets → IsComplete t → (h : Draw → ℕ) → total h (draws_of (all_calls (calls_of_all actors))) ≡ total h (tickets_of t)
draws_once actors t g c h = ap (total h) (all_draws actors t.tickets g) ∙ each_drawn t c h
