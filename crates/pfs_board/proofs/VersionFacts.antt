-- A chain counts and orders a row's entries; and what holds of each entry of a history holds of each that was made.
use Rattle.std.proofs.Common.{◌≡◌, ℕ, ◌+◌, ◌<◌, ◌≤◌, ◌==◌, ◌&&◌, Bool, true, false, cond, not, nat_lt, nat_le, List, [], ◌∷◌, sym, refl, ap, subst, arith}
use Rattle.std.proofs.lemmas.Bool.{and_from, and_parts, eqb-true}
use Rattle.pfs_lemmas.proofs.Numbers.{eq_self}
use Rattle.pfs_board.specs.declared.view.Change.{Change}
use Rattle.pfs_board.specs.History.{total, Each, step_of, version, IsChain}
use Rattle.pfs_board.specs.Versions.{one_if, publishes, publishes_at, AreBetween, ChainLaw}
use Rattle.pfs_board.proofs.HistoryFacts.{freed_now, freed_last}

count_of : (log : List Change) (r : ℕ) → version log r ≡ total (λ p. one_if (publishes r p)) log
count_of [] r = refl
count_of (p ∷ ps) r = at (p.row == r) p.puts (count_of ps r) where
  at : (b c : Bool) → version ps r ≡ total (λ q. one_if (publishes r q)) ps → cond {A = ℕ} b (version ps r + cond {A = ℕ} c 1 0) (version ps r) ≡ cond {A = ℕ} (b && c) 1 0 + total (λ q. one_if (publishes r q)) ps
  at true true e = omega (arith, e)
  at true false e = omega (arith, e)
  at false c e = omega (arith, e)

one_more : (k n v : ℕ) → v ≡ n + 1 → cond {A = ℕ} (v == k) 1 0 + cond {A = ℕ} (nat_lt 0 k && nat_le k n) 1 0 ≡ cond {A = ℕ} (nat_lt 0 k && nat_le k (n + 1)) 1 0
one_more k n v e = grind arith

once_of : (start : List ℕ) (log : List Change) (r k : ℕ) → IsChain start log → total (λ p. one_if (publishes_at r k p)) log ≡ one_if (nat_lt 0 k && nat_le k (version log r))
once_of start [] r k c = none k where
  none : (k : ℕ) → ◌≡◌ {A = ℕ} 0 (cond (nat_lt 0 k && nat_le k 0) 1 0)
  none k = grind arith
once_of start (p ∷ ps) r k c = at (p.row == r) p.puts refl refl (once_of start ps r k c.1) where
  at : (b d : Bool) → (p.row == r) ≡ b → p.puts ≡ d → total (λ q. one_if (publishes_at r k q)) ps ≡ cond {A = ℕ} (nat_lt 0 k && nat_le k (version ps r)) 1 0
      → cond {A = ℕ} ((b && d) && (p.version == k)) 1 0 + total (λ q. one_if (publishes_at r k q)) ps ≡ cond {A = ℕ} (nat_lt 0 k && nat_le k (cond {A = ℕ} b (version ps r + cond {A = ℕ} d 1 0) (version ps r))) 1 0
  at true true q u e =
      let n : p.version ≡ version ps p.row + step_of p = c.0.numbered in
      let s : step_of p ≡ 1 = ap (λ z. cond {A = ℕ} z 1 0) u in
      let same : version ps p.row ≡ version ps r = ap (version ps) (eqb-true p.row r q) in
      rw e (one_more k (version ps r) p.version (omega (arith, n, s, same)))
  at true false q u e = rw e (same (version ps r)) where
    same : (n : ℕ) → 0 + cond {A = ℕ} (nat_lt 0 k && nat_le k n) 1 0 ≡ cond {A = ℕ} (nat_lt 0 k && nat_le k (n + 0)) 1 0
    same n = grind arith
  at false d q u e = rw e (same (version ps r)) where
    same : (n : ℕ) → 0 + cond {A = ℕ} (nat_lt 0 k && nat_le k n) 1 0 ≡ cond {A = ℕ} (nat_lt 0 k && nat_le k n) 1 0
    same n = grind arith

between : (start : List ℕ) (log : List Change) (r : ℕ) → IsChain start log → AreBetween r log
between start [] r c = tt
between start (p ∷ ps) r c = (
  (λ e releases. let n : p.version ≡ version ps p.row + step_of p = c.0.numbered in let s : step_of p ≡ 0 = ap (λ z. cond {A = ℕ} z 1 0) releases in let same : version ps p.row ≡ version ps r = ap (version ps) e in omega (arith, n, s, same)),
  between start ps r c.1,
)

pub chain_law : ChainLaw
chain_law start log c r = record {
  count = count_of log r;
  once = λ k. once_of start log r k c;
  releases = between start log r c;
  free = (λ f. freed_now start log r c f, λ f. freed_last start log r c f);
}

-- two lists of numbers are the same
abbrev same_list : List ℕ → List ℕ → Bool
same_list [] [] = true
same_list [] (y ∷ ys) = false
same_list (x ∷ xs) [] = false
same_list (x ∷ xs) (y ∷ ys) = (x == y) && same_list xs ys

list_self : (xs : List ℕ) → same_list xs xs ≡ true
list_self [] = refl
list_self (x ∷ xs) = rw (eq_self x) (list_self xs)

list_is : (xs ys : List ℕ) → same_list xs ys ≡ true → xs ≡ ys
list_is [] [] e = refl
list_is [] (y ∷ ys) e = absurd (cc)
list_is (x ∷ xs) [] e = absurd (cc)
list_is (x ∷ xs) (y ∷ ys) e = let b = and_parts (x == y) (same_list xs ys) e in let h : x ≡ y = eqb-true x y b.0 in let t : xs ≡ ys = list_is xs ys b.1 in λ i. h i ∷ t i

abbrev same_bool : Bool → Bool → Bool
same_bool true b = b
same_bool false b = not b

bool_self : (b : Bool) → same_bool b b ≡ true
bool_self true = refl
bool_self false = refl

bool_is : (a b : Bool) → same_bool a b ≡ true → a ≡ b
bool_is true true e = refl
bool_is true false e = absurd (cc)
bool_is false true e = absurd (cc)
bool_is false false e = refl

abbrev same_numbers : Change → Change → Bool
same_numbers p q = (p.by == q.by) && ((p.row == q.row) && ((p.version == q.version) && (same_bool p.puts q.puts && ((p.action == q.action) && ((p.after == q.after) && (p.base == q.base))))))

abbrev same_contents : Change → Change → Bool
same_contents p q = (p.label.session == q.label.session) && ((p.label.line == q.label.line) && (same_list p.found q.found && same_list p.put q.put))

abbrev pub same_change : Change → Change → Bool
same_change p q = same_numbers p q && same_contents p q

pub change_self : (p : Change) → same_change p p ≡ true
change_self p = and_from _ _
    (and_from _ _ (eq_self p.by) (and_from _ _ (eq_self p.row) (and_from _ _ (eq_self p.version) (and_from _ _ (bool_self p.puts) (and_from _ _ (eq_self p.action) (and_from _ _ (eq_self p.after) (eq_self p.base)))))))
    (and_from _ _ (eq_self p.label.session) (and_from _ _ (eq_self p.label.line) (and_from _ _ (list_self p.found) (list_self p.put))))

pub change_is : (p q : Change) → same_change p q ≡ true → p ≡ q
change_is p q e =
    let x = and_parts (same_numbers p q) (same_contents p q) e in
    let a = and_parts _ _ x.0 in
    let b = and_parts _ _ a.1 in
    let c = and_parts _ _ b.1 in
    let d = and_parts _ _ c.1 in
    let f = and_parts _ _ d.1 in
    let g = and_parts _ _ f.1 in
    let l = and_parts _ _ x.1 in
    let m = and_parts _ _ l.1 in
    let n = and_parts _ _ m.1 in
    let by : p.by ≡ q.by = eqb-true _ _ a.0 in
    let row : p.row ≡ q.row = eqb-true _ _ b.0 in
    let version : p.version ≡ q.version = eqb-true _ _ c.0 in
    let puts : p.puts ≡ q.puts = bool_is p.puts q.puts d.0 in
    let action : p.action ≡ q.action = eqb-true _ _ f.0 in
    let after : p.after ≡ q.after = eqb-true _ _ g.0 in
    let base : p.base ≡ q.base = eqb-true _ _ g.1 in
    let session : p.label.session ≡ q.label.session = eqb-true _ _ l.0 in
    let line : p.label.line ≡ q.label.line = eqb-true _ _ m.0 in
    let found : p.found ≡ q.found = list_is p.found q.found n.0 in
    let put : p.put ≡ q.put = list_is p.put q.put n.1 in
    λ i. record { by = by i; row = row i; version = version i; puts = puts i; action = action i; after = after i; base = base i; label = record { session = session i; line = line i }; found = found i; put = put i }

found_one : (P : Change → Type 0) (p : Change) (log : List Change) → Each P log → 0 < total (λ q. one_if (same_change p q)) log → P p
found_one P p [] e h = absurd (omega (arith, h))
found_one P p (q ∷ qs) e h = at (same_change p q) refl h (found_one P p qs e.1) where
  at : (b : Bool) → same_change p q ≡ b → 0 < cond {A = ℕ} b 1 0 + total (λ x. one_if (same_change p x)) qs → (0 < total (λ x. one_if (same_change p x)) qs → P p) → P p
  at true s h go = subst P (sym (change_is p q s)) e.0
  at false s h go = go (omega (arith, h))

pub each_made : (P : Change → Type 0) (made log : List Change) → ((h : Change → ℕ) → total h made ≡ total h log) → Each P log → Each P made
each_made P made log once e = all made (λ h. omega arith) where
  all : (xs : List Change) → ((h : Change → ℕ) → total h xs ≤ total h made) → Each P xs
  all [] s = tt
  all (x ∷ xs) s =
      let w : Change → ℕ = λ q. one_if (same_change x q) in
      let here : w x ≡ 1 = ap (λ b. cond {A = ℕ} b 1 0) (change_self x) in
      let most : w x + total w xs ≤ total w made = s w in
      let same : total w made ≡ total w log = once w in
      (found_one P x log e (omega (arith, here, most, same)), all xs (λ h. let m : h x + total h xs ≤ total h made = s h in omega (arith, m)))
