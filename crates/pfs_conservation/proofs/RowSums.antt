-- The rows that a summary row shows, together.
use Rattle.std.proofs.Common.{◌≡◌, ℕ, zero, suc, ◌+◌, ◌*◌, ◌≤◌, ◌==◌, Bool, true, false, cond, List, [], ◌∷◌, Option, Some, None, count_by, filter, fold, refl, sym, ap, ◌∙◌, arith}
use Rattle.std.proofs.lemmas.Bool.{eqb-true}
use Rattle.pfs_conservation.specs.RowChains.{Change, Sums, with_event, content, found_by, Finds, Below}
use Rattle.pfs_conservation.specs.Journeys.{first_from_one, leaves_after, Journey, left, came_from, came}
use Rattle.pfs_conservation.proofs.MergeTotals.{Merges, total, settled_total, before_settled, total_add, total_none, total_same, total_counted, bit_yes, bit_no, times}
use Rattle.pfs_conservation.specs.Conservation.{AddsOnce, Follows, last_of}
use Rattle.pfs_conservation.proofs.EventSums.{token, content_natural}
use Rattle.pfs_conservation.proofs.ChainEvents.{stays, count_cons}

abbrev pub sum_of : (ℕ → ℕ) → List ℕ → ℕ
sum_of f [] = 0
sum_of f (row ∷ rows) = f row + sum_of f rows

module _ {A : Type 0} (s : Sums A) (m : Merges s) where
  -- totals of the listed events alone
  pub same_in : (v w : ℕ → ℕ) (es : List ℕ) → ((e : ℕ) → 1 ≤ count_by (λ y. e == y) es → v e ≡ w e) → total s v es ≡ total s w es
  same_in v w [] h = refl
  same_in v w (e ∷ es) h =
      ap (λ n. s.merge (times s n (s.of_event e)) (total s v es)) (h e (omega (arith, count_cons (λ y. e == y) e es, bit_yes (e == e) (self e))))
      ∙ ap (λ x. s.merge (times s (w e) (s.of_event e)) x) (same_in v w es (λ x some. h x (omega (arith, count_cons (λ y. x == y) e es))))
    where
      self : (a : ℕ) → (a == a) ≡ true
      self a = grind arith

  -- rows together, where each has the total of what stands there
  pub rows_total : (all : List ℕ) (value : ℕ → A) (here : ℕ → ℕ → ℕ) (rows : List ℕ) (w : ℕ → ℕ) → ((row : ℕ) → value row ≡ total s (λ e. here e row) all)
      → fold (λ sum row. s.merge sum (value row)) (total s w all) rows ≡ total s (λ e. w e + sum_of (here e) rows) all
  rows_total all value here [] w h = total_same s m w (λ e. w e + 0) all (λ e. omega arith)
  rows_total all value here (row ∷ rows) w h =
      ap (λ x. fold (λ sum r. s.merge sum (value r)) (s.merge (total s w all) x) rows) (h row)
      ∙ (ap (λ x. fold (λ sum r. s.merge sum (value r)) x rows) (sym (total_add s m w (λ e. here e row) all))
      ∙ (rows_total all value here rows (λ e. w e + here e row) h
      ∙ total_same s m (λ e. (w e + here e row) + sum_of (here e) rows) (λ e. w e + (here e row + sum_of (here e) rows)) all (λ e. omega arith)))

-- rows that are shown alike, as far as anything stands there, have the same sum
remove_one : ℕ → List ℕ → List ℕ
remove_one x [] = []
remove_one x (y ∷ ys) = cond (y == x) ys (y ∷ remove_one x ys)

sum_removed : (f : ℕ → ℕ) (x : ℕ) (ys : List ℕ) → 1 ≤ count_by (λ y. y == x) ys → sum_of f ys ≡ f x + sum_of f (remove_one x ys)
unfolding remove_one
sum_removed f x [] h = absurd (omega arith)
sum_removed f x (y ∷ ys) h = at (y == x) refl (sum_removed f x ys)
  where
    at : (b : Bool) → (y == x) ≡ b → (1 ≤ count_by (λ z. z == x) ys → sum_of f ys ≡ f x + sum_of f (remove_one x ys)) → f y + sum_of f ys ≡ f x + sum_of f (cond (y == x) ys (y ∷ remove_one x ys))
    at true q ih = rw q (ap (λ z. f z + sum_of f ys) (eqb-true y x q))
    at false q ih = rw q (omega (arith, ih (omega (arith, count_cons (λ z. z == x) y ys, bit_no (y == x) q))))

count_sum : (x : ℕ) (ys : List ℕ) → count_by (λ y. y == x) ys ≡ sum_of (λ y. cond (y == x) 1 0) ys
count_sum x [] = refl
count_sum x (y ∷ ys) = omega (arith, count_cons (λ z. z == x) y ys, count_sum x ys)

count_removed : (x r : ℕ) (ys : List ℕ) → 1 ≤ count_by (λ y. y == x) ys → count_by (λ y. y == r) ys ≡ cond (x == r) 1 0 + count_by (λ y. y == r) (remove_one x ys)
count_removed x r ys h = count_sum r ys ∙ (sum_removed (λ y. cond (y == r) 1 0) x ys h ∙ ap (λ n. cond (x == r) 1 0 + n) (sym (count_sum r (remove_one x ys))))

sum_none : (f : ℕ → ℕ) (ys : List ℕ) → ((r : ℕ) → 1 ≤ f r → count_by (λ y. y == r) ys ≡ 0) → sum_of f ys ≡ 0
sum_none f [] h = refl
sum_none f (y ∷ ys) h = at (f y) refl (sum_none f ys (λ r some. omega (arith, h r some, count_cons (λ z. z == r) y ys)))
  where
    self : (a : ℕ) → (a == a) ≡ true
    self a = grind arith

    at : (n : ℕ) → f y ≡ n → sum_of f ys ≡ 0 → f y + sum_of f ys ≡ 0
    at zero q rest = omega arith
    at (suc n) q rest = absurd (omega (arith, h y (omega arith), count_cons (λ z. z == y) y ys, bit_yes (y == y) (self y)))

pub sum_same : (f : ℕ → ℕ) (xs ys : List ℕ) → ((r : ℕ) → 1 ≤ f r → count_by (λ x. x == r) xs ≡ count_by (λ y. y == r) ys) → sum_of f xs ≡ sum_of f ys
sum_same f [] ys h = sym (sum_none f ys (λ r some. sym (h r some)))
sum_same f (x ∷ xs) ys h = at (f x) refl (λ zs g. sum_same f xs zs g)
  where
    self : (a : ℕ) → (a == a) ≡ true
    self a = grind arith

    differ : (a b : ℕ) → f a ≡ 0 → 1 ≤ f b → (a == b) ≡ false
    differ a b none some = apart a b (λ q. absurd (omega (arith, ap f q)))
      where
        apart : (a b : ℕ) → (a ≡ b → ⊥) → (a == b) ≡ false
        apart a b h = grind (arith, h)

    at : (n : ℕ) → f x ≡ n → ((zs : List ℕ) → ((r : ℕ) → 1 ≤ f r → count_by (λ z. z == r) xs ≡ count_by (λ z. z == r) zs) → sum_of f xs ≡ sum_of f zs) → f x + sum_of f xs ≡ sum_of f ys
    at zero q ih =
        let rest : sum_of f xs ≡ sum_of f ys = ih ys (λ r some. omega (arith, h r some, count_cons (λ z. z == r) x xs, bit_no (x == r) (differ x r q some))) in
        omega arith
    at (suc n) q ih =
        let there : 1 ≤ count_by (λ z. z == x) ys = omega (arith, h x (omega arith), count_cons (λ z. z == x) x xs, bit_yes (x == x) (self x)) in
        let rest : sum_of f xs ≡ sum_of f (remove_one x ys) = ih (remove_one x ys) (λ r some. omega (arith, h r some, count_cons (λ z. z == r) x xs, count_removed x r ys there)) in
        omega (arith, sum_removed f x ys there)

module _ (chains : ℕ → List Change) (level : ℕ → ℕ) (is_some : ℕ → ℕ → Type 0) (e home : ℕ) (before leave : ℕ → Option ℕ) (j : Journey chains level is_some e home before leave) where
  -- how often the event stands in a row
  abbrev pub standing : ℕ → ℕ
  standing row = came home before leave row * stays (leave row)

  -- along its path the event stands in one row, unless it has left the last
  path_sum : (from : ℕ) (rows : List ℕ) → Follows before home from rows → stays (leave from) + sum_of standing rows ≡ stays (leave (last_of from rows))
  path_sum from [] f = omega arith
  path_sum from (row ∷ rows) f = at (leave from) refl (path_sum row rows f.2)
    where
      arrived : came home before leave row ≡ left (leave from)
      arrived = ap (λ (b : Bool). cond {A = ℕ} b 1 (came_from (before row) leave)) f.1 ∙ ap (λ b. came_from b leave) f.0

      next : leave row ≡ first_from_one (leave from) (chains row)
      next = j.leaves row f.1 ∙ ap (λ b. leaves_after b leave (chains row)) f.0

      at : (t : Option ℕ) → leave from ≡ t → stays (leave row) + sum_of standing rows ≡ stays (leave (last_of row rows)) → stays (leave from) + (standing row + sum_of standing rows) ≡ stays (leave (last_of row rows))
      at None q ih =
          omega (arith, ih, ap stays q, ap (λ n. n * stays (leave row)) (arrived ∙ ap left q), ap stays (next ∙ ap (λ t. first_from_one t (chains row)) q))
      at (Some n) q ih =
          omega (arith, ih, ap stays q, ap (λ k. k * stays (leave row)) (arrived ∙ ap left q))

  home_standing : standing home ≡ stays (leave home)
  home_standing = omega (arith, ap (λ (b : Bool). cond {A = ℕ} b 1 (came_from (before home) leave) * stays (leave home)) (self home))
    where
      self : (a : ℕ) → (a == a) ≡ true
      self a = grind arith

  -- what a summary row shows of the event: where it stands on the path to the last row, if it leads there
  pub shown_sum : (shown rows : List ℕ) (leads : Bool) → Follows before home home rows
      → ((row : ℕ) → 1 ≤ standing row → count_by (λ r. r == row) shown ≡ cond leads (count_by (λ r. r == row) (home ∷ rows)) 0)
      → sum_of standing shown ≡ cond leads (stays (leave (last_of home rows))) 0
  shown_sum shown rows true f h = sum_same standing shown (home ∷ rows) h ∙ (ap (λ n. n + sum_of standing rows) home_standing ∙ path_sum home rows f)
  shown_sum shown rows false f h = sum_same standing shown [] h

module _ {A : Type 0} (s : Sums A) (m : Merges s) (all : List ℕ) (chains : ℕ → List Change) (level : ℕ → ℕ) (rises : (row : ℕ) → Below level (level row) (chains row)) (once : (row : ℕ) → AddsOnce all (chains row))
    (found : ℕ → ℕ → A) (finds : Finds s chains found) (depth : ℕ) (flat : (row : ℕ) → level row ≤ depth) where
  -- rows merge to the events that count, where each event stands in them once if it counts and not otherwise
  pub together : (rows : List ℕ) (counts : ℕ → Bool)
      → ((e : ℕ) → 1 ≤ count_by (λ y. e == y) all → sum_of (λ row. content (token e) (found_by (token e) chains depth) (chains row)) rows ≡ cond (counts e) 1 0)
      → fold (λ sum row. s.merge sum (content s found (chains row))) s.nothing rows ≡ fold (with_event s) s.nothing (filter counts all)
  together rows counts h =
      ap (λ x. fold (λ sum row. s.merge sum (content s found (chains row))) x rows) (sym (total_none s m all))
      ∙ (rows_total s m all (λ row. content s found (chains row)) (λ e row. content (token e) (found_by (token e) chains depth) (chains row)) rows (λ e. 0) (λ row. content_natural s m all chains level rises once found finds depth row (flat row))
      ∙ (same_in s m (λ e. 0 + sum_of (λ row. content (token e) (found_by (token e) chains depth) (chains row)) rows) (λ e. cond (counts e) 1 0) all (λ e some. omega (arith, h e some))
      ∙ sym (total_counted s m counts all s.nothing (record { same = m.nothing_twice }) ∙ before_settled s m (total s (λ e. cond (counts e) 1 0) all) (settled_total s m (λ e. cond (counts e) 1 0) all))))
