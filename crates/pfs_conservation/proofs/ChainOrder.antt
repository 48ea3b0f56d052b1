-- Chains that follow the moves of the actions are in order.
use Rattle.std.proofs.Common.{inl, inr, ◌≡◌, ℕ, ◌+◌, ◌*◌, ◌≤◌, ◌==◌, ◌&&◌, Bool, true, false, cond, List, [], ◌∷◌, ◌++◌, count_by, refl, sym, ap, ◌∙◌, subst, arith}
use Rattle.std.proofs.lemmas.List.Sums.{sum_by-append}
use Rattle.std.proofs.lemmas.Bool.{eqb-true}
use Rattle.pfs_lemmas.proofs.Bools.{and_first}
use Rattle.pfs_conservation.specs.RowChains.{Change, Added, Taken, Given, Below}
use Rattle.pfs_conservation.specs.Removals.{is_given, Ascends}
use Rattle.pfs_conservation.specs.RowMoves.{Move, goes_to, touch, touches, moved, IsLater, AllLater, Climbs, InOrder, sends}
use Rattle.pfs_conservation.proofs.ChainEvents.{count_cons}

-- additions between the moves don't matter
pub ascends_moved : (key : ℕ) (cs : List Change) → Ascends key (moved cs) → Ascends key cs
ascends_moved key [] a = tt
ascends_moved key (Added es ∷ cs) a = ascends_moved key cs a
ascends_moved key (Taken n ∷ cs) a = (a.0, ascends_moved (2 * n + 2) cs a.1)
ascends_moved key (Given n row ∷ cs) a = (a.0, ascends_moved (2 * n) cs a.1)

pub below_moved : (level : ℕ → ℕ) (height : ℕ) (cs : List Change) → Below level height (moved cs) → Below level height cs
below_moved level height [] b = tt
below_moved level height (Added es ∷ cs) b = below_moved level height cs b
below_moved level height (Taken n ∷ cs) b = below_moved level height cs b
below_moved level height (Given n row ∷ cs) b = (b.0, below_moved level height cs b.1)

pub count_moved : (n row : ℕ) (cs : List Change) → count_by (is_given n row) (moved cs) ≡ count_by (is_given n row) cs
count_moved n row [] = refl
count_moved n row (Added es ∷ cs) = omega (arith, count_moved n row cs, count_cons (is_given n row) (Added es) cs)
count_moved n row (Taken k ∷ cs) = omega (arith, count_moved n row cs, count_cons (is_given n row) (Taken k) cs, count_cons (is_given n row) (Taken k) (moved cs))
count_moved n row (Given k from ∷ cs) = omega (arith, count_moved n row cs, count_cons (is_given n row) (Given k from) cs, count_cons (is_given n row) (Given k from) (moved cs))

module _ (level : ℕ → ℕ) (kept : ℕ → ℕ → Bool) (row : ℕ) where
  -- what a move may still change in the row
  Above : ℕ → Move → Type 0
  Above key m = (m.from ≡ row → key ≤ 2 * m.action + 1) × (goes_to row m.to ≡ true → key ≤ 2 * m.action)

  AllAbove : ℕ → List Move → Type 0
  AllAbove key [] = Unit {0}
  AllAbove key (m ∷ ms) = Above key m × AllAbove key ms

  above_given : (first : Move) (ms : List Move) → AllLater level first ms → AllAbove (2 * first.action) ms
  unfolding Above AllAbove
  above_given first [] l = tt
  above_given first (m ∷ ms) l = (one l.0, above_given first ms l.1)
    where
      one : IsLater level first m → Above (2 * first.action) m
      one (inl less) = (λ q. omega arith, λ q. omega arith)
      one (inr same) = (λ q. omega (arith, same.0), λ q. omega (arith, same.0))

  above_taken : (first : Move) (ms : List Move) → first.from ≡ row → AllLater level first ms → InOrder level ms → AllAbove (2 * first.action + 2) ms
  unfolding Above AllAbove
  above_taken first [] f l o = tt
  above_taken first (m ∷ ms) f l o = (one l.0, above_taken first ms f l.1 o.2)
    where
      one : IsLater level first m → Above (2 * first.action + 2) m
      one (inl less) = (λ q. omega arith, λ q. omega arith)
      one (inr same) = (λ q. absurd (same.2 (f ∙ sym q)), λ q. absurd (omega (arith, o.0 row q, same.1, ap level f)))

  touches_ascend : (key : ℕ) (ms : List Move) → InOrder level ms → AllAbove key ms → Ascends key (touches kept row ms)
  unfolding Above AllAbove
  touches_ascend key [] o a = tt
  touches_ascend key (m ∷ ms) o a = at (m.from == row) (goes_to row m.to && kept m.action m.from) refl refl (λ k b. touches_ascend k ms o.2 b)
    where
      at : (b c : Bool) → (m.from == row) ≡ b → (goes_to row m.to && kept m.action m.from) ≡ c → ((k : ℕ) → AllAbove k ms → Ascends k (touches kept row ms)) → Ascends key (touch kept row m ++ touches kept row ms)
      at true c q r ih = rw q (a.0.0 (eqb-true m.from row q), ih (2 * m.action + 2) (above_taken m ms (eqb-true m.from row q) o.1 o.2))
      at false true q r ih = rw (q, r) (a.0.1 (and_first (goes_to row m.to) (kept m.action m.from) r), ih (2 * m.action) (above_given m ms o.1))
      at false false q r ih = rw (q, r) (ih key a.1)

  above_none : (ms : List Move) → AllAbove 0 ms
  unfolding Above AllAbove
  above_none [] = tt
  above_none (m ∷ ms) = ((λ q. omega arith, λ q. omega arith), above_none ms)

  touches_below : (ms : List Move) → InOrder level ms → Below level (level row) (touches kept row ms)
  touches_below [] o = tt
  touches_below (m ∷ ms) o = at (m.from == row) (goes_to row m.to && kept m.action m.from) refl refl (touches_below ms o.2)
    where
      at : (b c : Bool) → (m.from == row) ≡ b → (goes_to row m.to && kept m.action m.from) ≡ c → Below level (level row) (touches kept row ms) → Below level (level row) (touch kept row m ++ touches kept row ms)
      at true c q r ih = rw q ih
      at false true q r ih = rw (q, r) (o.0 row (and_first (goes_to row m.to) (kept m.action m.from) r), ih)
      at false false q r ih = rw (q, r) ih

  pub follows_ascends : (ms : List Move) (cs : List Change) → InOrder level ms → moved cs ≡ touches kept row ms → Ascends 0 cs
  follows_ascends ms cs o h = ascends_moved 0 cs (subst (λ x. Ascends 0 x) (sym h) (touches_ascend 0 ms o (above_none ms)))

  pub follows_below : (ms : List Move) (cs : List Change) → InOrder level ms → moved cs ≡ touches kept row ms → Below level (level row) cs
  follows_below ms cs o h = below_moved level (level row) cs (subst (λ x. Below level (level row) x) (sym h) (touches_below ms o))

-- how many gives stand in a row
module _ (kept : ℕ → ℕ → Bool) (n from row : ℕ) where
  gave : (here gives : Bool) (action source : ℕ) → count_by (is_given n from) (cond {A = List Change} here (Taken action ∷ []) (cond gives (Given action source ∷ []) [])) ≡ cond here 0 (cond gives (cond ((action == n) && (source == from)) 1 0) 0)
  gave true gives action source = omega (arith, count_cons (is_given n from) (Taken action) [])
  gave false true action source = omega (arith, count_cons (is_given n from) (Given action source) [])
  gave false false action source = refl

  most : (here goes keeps is : Bool) → cond here 0 (cond (goes && keeps) (cond is 1 0) 0) ≤ cond (is && goes) 1 0
  most true goes keeps is = omega arith
  most false true true true = omega arith
  most false true true false = omega arith
  most false true false is = omega arith
  most false false keeps is = omega arith

  count_joined : (xs ys : List Change) → count_by (is_given n from) (xs ++ ys) ≡ count_by (is_given n from) xs + count_by (is_given n from) ys
  count_joined xs ys = sum_by-append (λ c. cond (is_given n from c) 1 0) xs ys

  pub gives_most : (ms : List Move) → count_by (is_given n from) (touches kept row ms) ≤ sends ms n from row
  gives_most [] = omega arith
  gives_most (m ∷ ms) =
      omega (
        arith,
        gives_most ms,
        count_joined (touch kept row m) (touches kept row ms),
        gave (m.from == row) (goes_to row m.to && kept m.action m.from) m.action m.from,
        most (m.from == row) (goes_to row m.to) (kept m.action m.from) ((m.action == n) && (m.from == from)),
      )

  parts : (a b c d : ℕ) → ((a == c) && (b == d)) ≡ true → (a ≡ c) × (b ≡ d)
  parts a b c d q = grind (arith, q)

  least : (m : Move) (level : ℕ → ℕ) → Climbs level m → kept n from ≡ true → cond (((m.action == n) && (m.from == from)) && goes_to row m.to) 1 0 ≤ cond (m.from == row) 0 (cond (goes_to row m.to && kept m.action m.from) (cond ((m.action == n) && (m.from == from)) 1 0) 0)
  least m level climbs keeps = at ((m.action == n) && (m.from == from)) (goes_to row m.to) refl refl
    where
      at : (is goes : Bool) → ((m.action == n) && (m.from == from)) ≡ is → goes_to row m.to ≡ goes → cond (((m.action == n) && (m.from == from)) && goes_to row m.to) 1 0 ≤ cond (m.from == row) 0 (cond (goes_to row m.to && kept m.action m.from) (cond ((m.action == n) && (m.from == from)) 1 0) 0)
      at false goes q r = rw q (omega arith)
      at true false q r = rw (q, r) (omega arith)
      at true true q r =
          let p : (m.action ≡ n) × (m.from ≡ from) = parts m.action m.from n from q in
          let k : kept m.action m.from ≡ true = ap (λ a. kept a m.from) p.0 ∙ (ap (λ f. kept n f) p.1 ∙ keeps) in
          let other : (m.from == row) ≡ false = apart m.from row (λ same. absurd (omega (arith, climbs row r, ap level same))) in
          rw (q, r, k, other) (omega arith)
        where
          apart : (a b : ℕ) → (a ≡ b → ⊥) → (a == b) ≡ false
          apart a b h = grind (arith, h)

  pub gives_least : (level : ℕ → ℕ) (ms : List Move) → InOrder level ms → kept n from ≡ true → sends ms n from row ≤ count_by (is_given n from) (touches kept row ms)
  gives_least level [] o keeps = omega arith
  gives_least level (m ∷ ms) o keeps =
      omega (
        arith,
        gives_least level ms o.2 keeps,
        count_joined (touch kept row m) (touches kept row ms),
        gave (m.from == row) (goes_to row m.to && kept m.action m.from) m.action m.from,
        least m level o.0 keeps,
      )
