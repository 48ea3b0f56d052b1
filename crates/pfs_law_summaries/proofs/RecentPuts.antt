-- Puts that go round ten rows: the last ten of them are those that are the last at their rows.
use Rattle.std.proofs.Common.{◌≡◌, refl, ℕ, suc, ◌+◌, ◌*◌, ◌-◌, ◌%◌, ◌<◌, ◌≤◌, ◌==◌, Bool, true, false, cond, nat_le, List, [], ◌∷◌, length, drop, Option, Some, None, sym, ap, subst, ◌∙◌, inl, inr, arith}
use Rattle.std.proofs.lemmas.Bool.{eqb-true, leb-true, leb-false}
use Rattle.pfs_lemmas.proofs.Options.{some_same}
use Rattle.pfs_model.specs.Actions.{IsAmong}
use Rattle.pfs_model.specs.Chains.{change_at}
use Rattle.pfs_model.specs.declared.changes.Change.{Change}

-- the version of the last of these changes of a row
abbrev pub or_else : Option ℕ → Option ℕ → Option ℕ
or_else (Some version) other = Some version
or_else None other = other

abbrev pub last_at : ℕ → List Change → Option ℕ
last_at row [] = None
last_at row (x ∷ xs) = or_else (last_at row xs) (cond (x.row == row) (Some x.version) None)

-- changes whose rows go round the ten from this one on, where so many puts were before
abbrev pub GoRound : ℕ → ℕ → List Change → Type 0
GoRound base before [] = Unit {0}
GoRound base before (x ∷ xs) = (x.row ≡ base + before % 10) × GoRound base (before + 1) xs

-- the first row of a history
abbrev pub first_row : ℕ → ℕ → ℕ
first_row slot kind = 8450 + 56 * slot + 16 + 10 * kind

or_last : (a : Option ℕ) (w : ℕ) (b : Option ℕ) → a ≡ Some w → or_else a b ≡ Some w
or_last a w b e = ap (λ z. or_else z b) e

or_none : (a b : Option ℕ) → a ≡ None → or_else a b ≡ b
or_none a b e = ap (λ z. or_else z b) e

here : (x row : ℕ) (o : Option ℕ) → x ≡ row → cond (x == row) o None ≡ o
here x row o e = ap (λ b. cond b o None) (same x row e) where
  same : (x row : ℕ) → x ≡ row → (x == row) ≡ true
  same x row e = grind (arith, e)

elsewhere : (x row : ℕ) (o : Option ℕ) → (x ≡ row → ⊥) → cond {A = Option ℕ} (x == row) o None ≡ None
elsewhere x row o ne = on (x == row) refl where
  on : (b : Bool) → (x == row) ≡ b → cond {A = Option ℕ} b o None ≡ None
  on true q = absurd (ne (eqb-true x row q))
  on false q = refl

-- of puts less than ten apart no two have one row
apart : (m n : ℕ) → m < n → n < m + 10 → n % 10 ≡ m % 10 → ⊥
apart m n l h e = absurd (omega (arith, l, h, e))

module _ (base : ℕ) where
  -- a row comes among ten puts and more
  occurs : (m put : ℕ) (xs : List Change) → GoRound base put xs → put ≤ m → m < put + length xs
      → (w : ℕ) × (last_at (base + m % 10) xs ≡ Some w)
  occurs m put [] g l h = absurd (omega (arith, l, h))
  occurs m put (x ∷ xs) g l h = on (put == m) refl (λ n. occurs m (put + 1) xs g.1 n (omega (arith, h))) where
    row : ℕ
    row = base + m % 10

    later : (w : ℕ) × (last_at row xs ≡ Some w) → (w : ℕ) × (last_at row (x ∷ xs) ≡ Some w)
    later (w, e) = (w, or_last (last_at row xs) w (cond (x.row == row) (Some x.version) None) e)

    first : (o : Option ℕ) → last_at row xs ≡ o → x.row ≡ row → (w : ℕ) × (last_at row (x ∷ xs) ≡ Some w)
    first (Some w) q e = later (w, q)
    first None q e = (x.version, or_none (last_at row xs) (cond (x.row == row) (Some x.version) None) q ∙ here x.row row (Some x.version) e)

    on : (b : Bool) → (put == m) ≡ b → (put + 1 ≤ m → (w : ℕ) × (last_at row xs ≡ Some w)) → (w : ℕ) × (last_at row (x ∷ xs) ≡ Some w)
    on true q more = first (last_at row xs) refl (g.0 ∙ ap (λ n. base + n % 10) (eqb-true put m q))
    on false q more = later (more (above put m l q)) where
      above : (a b : ℕ) → a ≤ b → (a == b) ≡ false → a + 1 ≤ b
      above a b l q = grind (arith, l, q)

  -- and not among fewer that follow a put there
  absent : (m put : ℕ) (xs : List Change) → GoRound base put xs → m < put → put + length xs ≤ m + 10
      → last_at (base + m % 10) xs ≡ None
  absent m put [] g l h = refl
  absent m put (x ∷ xs) g l h =
      or_none (last_at row xs) (cond (x.row == row) (Some x.version) None) (absent m (put + 1) xs g.1 (omega (arith, l)) (omega (arith, h)))
      ∙ elsewhere x.row row (Some x.version) (λ e. apart m put l (omega (arith, h)) (let f : base + put % 10 ≡ base + m % 10 = sym g.0 ∙ e in omega (arith, f))) where
        row : ℕ
        row = base + m % 10

  few : (xs : List Change) → nat_le 10 (length xs) ≡ false → drop (length xs - 10) xs ≡ xs
  few xs q = ap (λ n. drop n xs) (none (length xs) q) where
    none : (n : ℕ) → nat_le 10 n ≡ false → n - 10 ≡ 0
    none n q = grind (arith, q)

  few_more : (x : Change) (xs : List Change) → nat_le 10 (length xs) ≡ false → drop (length (x ∷ xs) - 10) (x ∷ xs) ≡ x ∷ xs
  few_more x xs q = ap (λ n. drop n (x ∷ xs)) (none (length xs) q) where
    none : (n : ℕ) → nat_le 10 n ≡ false → suc n - 10 ≡ 0
    none n q = grind (arith, q)

  many : (x : Change) (xs : List Change) → nat_le 10 (length xs) ≡ true → drop (length (x ∷ xs) - 10) (x ∷ xs) ≡ drop (length xs - 10) xs
  many x xs q = ap (λ n. drop n (x ∷ xs)) (one (length xs) q) where
    one : (n : ℕ) → nat_le 10 n ≡ true → suc n - 10 ≡ suc (n - 10)
    one n q = grind (arith, q)

  -- one of the last ten is the last at its row
  pub recent_last : (put : ℕ) (xs : List Change) → GoRound base put xs → (x : Change) → IsAmong x (drop (length xs - 10) xs) → last_at x.row xs ≡ Some x.version
  recent_last put [] g x a = absurd a
  recent_last put (y ∷ ys) g x a = on (nat_le 10 (length ys)) refl (recent_last (put + 1) ys g.1 x) where
    late : last_at x.row ys ≡ Some x.version → last_at x.row (y ∷ ys) ≡ Some x.version
    late e = or_last (last_at x.row ys) x.version (cond (y.row == x.row) (Some y.version) None) e

    first : nat_le 10 (length ys) ≡ false → y ≡ x → last_at x.row (y ∷ ys) ≡ Some x.version
    first q e =
        let l : length ys < 10 = leb-false 10 (length ys) q in
        subst (λ (z : Change). last_at z.row (y ∷ ys) ≡ Some z.version) e
        (or_none (last_at y.row ys) (cond (y.row == y.row) (Some y.version) None)
        (subst (λ r. last_at r ys ≡ None) (sym g.0) (absent put (put + 1) ys g.1 (omega arith) (omega (arith, l))))
        ∙ here y.row y.row (Some y.version) refl)

    on : (b : Bool) → nat_le 10 (length ys) ≡ b → (IsAmong x (drop (length ys - 10) ys) → last_at x.row ys ≡ Some x.version) → last_at x.row (y ∷ ys) ≡ Some x.version
    on true q more = late (more (subst (IsAmong x) (many y ys q) a))
    on false q more = split (subst (IsAmong x) (few_more y ys q) a) where
      split : IsAmong x (y ∷ ys) → last_at x.row (y ∷ ys) ≡ Some x.version
      split (inl e) = first q e
      split (inr b) = late (more (subst (IsAmong x) (sym (few ys q)) b))

  -- and the last at its row is one of the last ten
  pub last_recent : (put : ℕ) (xs : List Change) → GoRound base put xs → (row version : ℕ) → last_at row xs ≡ Some version → IsAmong (change_at row version) (drop (length xs - 10) xs)
  last_recent put [] g row version e = absurd (cc)
  last_recent put (y ∷ ys) g row version e = on (last_at row ys) refl (nat_le 10 (length ys)) refl (last_recent (put + 1) ys g.1 row) where
    own : (o : Option ℕ) → last_at row ys ≡ o → o ≡ None → (y.row ≡ row) × (y.version ≡ version)
    own o q n = at (y.row == row) refl (sym (or_none (last_at row ys) (cond (y.row == row) (Some y.version) None) (q ∙ n)) ∙ e) where
      at : (b : Bool) → (y.row == row) ≡ b → cond {A = Option ℕ} b (Some y.version) None ≡ Some version → (y.row ≡ row) × (y.version ≡ version)
      at true p f = (eqb-true y.row row p, some_same y.version version f)
      at false p f = absurd (cc)

    on : (o : Option ℕ) → last_at row ys ≡ o → (b : Bool) → nat_le 10 (length ys) ≡ b
        → ((v : ℕ) → last_at row ys ≡ Some v → IsAmong (change_at row v) (drop (length ys - 10) ys))
        → IsAmong (change_at row version) (drop (length (y ∷ ys) - 10) (y ∷ ys))
    on (Some w) q b p more = put_back b p (more version (q ∙ ap Some same)) where
      same : w ≡ version
      same = some_same w version (sym (or_last (last_at row ys) w (cond (y.row == row) (Some y.version) None) q) ∙ e)

      put_back : (b : Bool) → nat_le 10 (length ys) ≡ b → IsAmong (change_at row version) (drop (length ys - 10) ys) → IsAmong (change_at row version) (drop (length (y ∷ ys) - 10) (y ∷ ys))
      put_back true p a = subst (IsAmong (change_at row version)) (sym (many y ys p)) a
      put_back false p a = subst (IsAmong (change_at row version)) (sym (few_more y ys p)) (inr (subst (IsAmong (change_at row version)) (few ys p) a))
    on None q true p more = absurd (let o : (w : ℕ) × (last_at (base + (put + 10) % 10) ys ≡ Some w) = occurs (put + 10) (put + 1) ys g.1 (omega arith) (let l : 10 ≤ length ys = leb-true 10 (length ys) p in omega (arith, l)) in
        let r : base + (put + 10) % 10 ≡ row = ap (λ n. base + n) (round put) ∙ (sym g.0 ∙ (own None q refl).0) in
        let n : None ≡ Some o.0 = sym q ∙ (ap (λ r. last_at r ys) (sym r) ∙ o.1) in cc) where
          round : (n : ℕ) → (n + 10) % 10 ≡ n % 10
          round n = omega arith
    on None q false p more = subst (IsAmong (change_at row version)) (sym (few_more y ys p)) (inl (both (own None q refl))) where
      both : (y.row ≡ row) × (y.version ≡ version) → y ≡ change_at row version
      both (a, b) = ap (λ r. change_at r y.version) a ∙ ap (change_at row) b
