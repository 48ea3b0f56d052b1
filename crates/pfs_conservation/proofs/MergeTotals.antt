-- Merges of events, each so many times.
use Rattle.std.proofs.Common.{◌≡◌, ℕ, zero, suc, ◌+◌, ◌==◌, Bool, true, false, cond, List, [], ◌∷◌, count_by, filter, fold, refl, sym, ap, ◌∙◌, arith}
use Rattle.std.proofs.lemmas.List.Sums.{sum_by-cons}
use Rattle.pfs_conservation.specs.RowChains.{Sums, with_event}

-- what merging keeps to, as far as it is needed
pub record Merges {A : Type 0} (s : Sums A) : Type 0 where
  pub nothing_twice : s.merge s.nothing s.nothing ≡ s.nothing
  pub event : (e : ℕ) → s.merge (s.of_event e) s.nothing ≡ s.of_event e
  pub commutes : (a b : A) → s.merge a b ≡ s.merge b a
  pub associates : (a b c : A) → s.merge (s.merge a b) c ≡ s.merge a (s.merge b c)

pub bit_yes : (b : Bool) → b ≡ true → ◌≡◌ {A = ℕ} (cond b 1 0) 1
bit_yes b h = ap (λ (c : Bool). cond {A = ℕ} c 1 0) h

pub bit_no : (b : Bool) → b ≡ false → ◌≡◌ {A = ℕ} (cond b 1 0) 0
bit_no b h = ap (λ (c : Bool). cond {A = ℕ} c 1 0) h

-- so many times one event
abbrev pub times : {A : Type 0} → Sums A → ℕ → A → A
times s zero a = s.nothing
times s (suc n) a = s.merge a (times s n a)

-- each event so many times
abbrev pub total : {A : Type 0} → Sums A → (ℕ → ℕ) → List ℕ → A
total s w [] = s.nothing
total s w (e ∷ es) = s.merge (times s (w e) (s.of_event e)) (total s w es)

module _ {A : Type 0} (s : Sums A) (m : Merges s) where
  -- a merge with nothing leaves it as it is
  pub record Settled (a : A) : Type 0 where
    pub same : s.merge a s.nothing ≡ a

  settled_merge : (a b : A) → Settled b → Settled (s.merge a b)
  settled_merge a b h = record { same = m.associates a b s.nothing ∙ ap (λ x. s.merge a x) h.same }

  settled_times : (n : ℕ) (e : ℕ) → Settled (times s n (s.of_event e))
  settled_times zero e = record { same = m.nothing_twice }
  settled_times (suc n) e = settled_merge (s.of_event e) (times s n (s.of_event e)) (settled_times n e)

  pub settled_total : (w : ℕ → ℕ) (es : List ℕ) → Settled (total s w es)
  settled_total w [] = record { same = m.nothing_twice }
  settled_total w (e ∷ es) = settled_merge (times s (w e) (s.of_event e)) (total s w es) (settled_total w es)

  pub before_settled : (a : A) → Settled a → s.merge s.nothing a ≡ a
  before_settled a h = m.commutes s.nothing a ∙ h.same

  times_add : (k n : ℕ) (e : ℕ) → times s (k + n) (s.of_event e) ≡ s.merge (times s k (s.of_event e)) (times s n (s.of_event e))
  times_add zero n e =
      let q : zero + n ≡ n = omega arith in
      ap (λ k. times s k (s.of_event e)) q ∙ sym (before_settled (times s n (s.of_event e)) (settled_times n e))
  times_add (suc k) n e =
      let q : suc k + n ≡ suc (k + n) = omega arith in
      ap (λ j. times s j (s.of_event e)) q
      ∙ (ap (λ x. s.merge (s.of_event e) x) (times_add k n e)
      ∙ sym (m.associates (s.of_event e) (times s k (s.of_event e)) (times s n (s.of_event e))))

  crossed : (a b c d : A) → s.merge (s.merge a b) (s.merge c d) ≡ s.merge (s.merge a c) (s.merge b d)
  crossed a b c d =
      m.associates a b (s.merge c d)
      ∙ (ap (λ x. s.merge a x) (sym (m.associates b c d) ∙ (ap (λ x. s.merge x d) (m.commutes b c) ∙ m.associates c b d))
      ∙ sym (m.associates a c (s.merge b d)))

  pub total_add : (v w : ℕ → ℕ) (es : List ℕ) → total s (λ e. v e + w e) es ≡ s.merge (total s v es) (total s w es)
  total_add v w [] = sym m.nothing_twice
  total_add v w (e ∷ es) =
      ap (λ x. s.merge x (total s (λ e. v e + w e) es)) (times_add (v e) (w e) e)
      ∙ (ap (λ x. s.merge (s.merge (times s (v e) (s.of_event e)) (times s (w e) (s.of_event e))) x) (total_add v w es)
      ∙ crossed (times s (v e) (s.of_event e)) (times s (w e) (s.of_event e)) (total s v es) (total s w es))

  pub total_none : (es : List ℕ) → total s (λ e. 0) es ≡ s.nothing
  total_none [] = refl
  total_none (e ∷ es) = ap (λ x. s.merge s.nothing x) (total_none es) ∙ m.nothing_twice

  pub total_same : (v w : ℕ → ℕ) (es : List ℕ) → ((e : ℕ) → v e ≡ w e) → total s v es ≡ total s w es
  total_same v w [] h = refl
  total_same v w (e ∷ es) h =
      ap (λ n. s.merge (times s n (s.of_event e)) (total s v es)) (h e) ∙ ap (λ x. s.merge (times s (w e) (s.of_event e)) x) (total_same v w es h)

  count_cons : (p : ℕ → Bool) (x : ℕ) (xs : List ℕ) → count_by p (x ∷ xs) ≡ cond (p x) 1 0 + count_by p xs
  count_cons p x xs = sum_by-cons (λ y. cond (p y) 1 0) x xs

  same_of : (a b : ℕ) → (a == b) ≡ true → a ≡ b
  same_of a b h = grind (arith, h)

  -- an event that isn't listed adds nothing, and one that is listed once adds itself
  total_absent : (x : ℕ) (es : List ℕ) → count_by (λ e. x == e) es ≡ 0 → total s (λ e. cond (x == e) 1 0) es ≡ s.nothing
  total_absent x [] h = refl
  total_absent x (e ∷ es) h = absent (x == e) refl (total_absent x es)
    where
      absent : (b : Bool) → (x == e) ≡ b → (count_by (λ y. x == y) es ≡ 0 → total s (λ y. cond (x == y) 1 0) es ≡ s.nothing) → s.merge (times s (cond (x == e) 1 0) (s.of_event e)) (total s (λ y. cond (x == y) 1 0) es) ≡ s.nothing
      absent true q ih = absurd (omega (arith, count_cons (λ y. x == y) e es, bit_yes (x == e) q))
      absent false q ih =
          let rest : count_by (λ y. x == y) es ≡ 0 = omega (arith, count_cons (λ y. x == y) e es, bit_no (x == e) q) in
          ap (λ (b : Bool). s.merge (times s (cond b 1 0) (s.of_event e)) (total s (λ y. cond (x == y) 1 0) es)) q ∙ (ap (λ y. s.merge s.nothing y) (ih rest) ∙ m.nothing_twice)

  pub total_one : (x : ℕ) (es : List ℕ) → count_by (λ e. x == e) es ≡ 1 → total s (λ e. cond (x == e) 1 0) es ≡ s.of_event x
  total_one x [] h = absurd (omega arith)
  total_one x (e ∷ es) h = one (x == e) refl (total_one x es)
    where
      one : (b : Bool) → (x == e) ≡ b → (count_by (λ y. x == y) es ≡ 1 → total s (λ y. cond (x == y) 1 0) es ≡ s.of_event x) → s.merge (times s (cond (x == e) 1 0) (s.of_event e)) (total s (λ y. cond (x == y) 1 0) es) ≡ s.of_event x
      one true q ih =
          let rest : count_by (λ y. x == y) es ≡ 0 = omega (arith, count_cons (λ y. x == y) e es, bit_yes (x == e) q) in
          let same : x ≡ e = same_of x e q in
          ap (λ (b : Bool). s.merge (times s (cond b 1 0) (s.of_event e)) (total s (λ y. cond (x == y) 1 0) es)) q
          ∙ (ap (λ y. s.merge (s.merge (s.of_event e) s.nothing) y) (total_absent x es rest)
          ∙ (ap (λ y. s.merge y s.nothing) (m.event e) ∙ (m.event e ∙ ap s.of_event (sym same))))
      one false q ih =
          let rest : count_by (λ y. x == y) es ≡ 1 = omega (arith, count_cons (λ y. x == y) e es, bit_no (x == e) q) in
          ap (λ (b : Bool). s.merge (times s (cond b 1 0) (s.of_event e)) (total s (λ y. cond (x == y) 1 0) es)) q
          ∙ (ap (λ y. s.merge s.nothing y) (ih rest)
          ∙ (m.commutes s.nothing (s.of_event x) ∙ m.event x))

  -- where each event counts once or not, the total is the merge of those that count
  pub total_counted : (counts : ℕ → Bool) (es : List ℕ) (here : A) → Settled here → fold (with_event s) here (filter counts es) ≡ s.merge here (total s (λ e. cond (counts e) 1 0) es)
  total_counted counts [] here h = sym h.same
  total_counted counts (e ∷ es) here h = counted (counts e) refl (λ x hx. total_counted counts es x hx)
    where
      counted : (b : Bool) → counts e ≡ b → ((x : A) → Settled x → fold (with_event s) x (filter counts es) ≡ s.merge x (total s (λ y. cond (counts y) 1 0) es)) → fold (with_event s) here (filter counts (e ∷ es)) ≡ s.merge here (s.merge (times s (cond (counts e) 1 0) (s.of_event e)) (total s (λ y. cond (counts y) 1 0) es))
      counted true q ih =
          let one : Settled (s.of_event e) = record { same = m.event e } in
          ap (λ (b : Bool). fold (with_event s) here (cond b (e ∷ filter counts es) (filter counts es))) q
          ∙ (ih (s.merge here (s.of_event e)) (settled_merge here (s.of_event e) one)
          ∙ (m.associates here (s.of_event e) (total s (λ y. cond (counts y) 1 0) es)
          ∙ (ap (λ x. s.merge here (s.merge x (total s (λ y. cond (counts y) 1 0) es))) (sym (m.event e))
          ∙ ap (λ (b : Bool). s.merge here (s.merge (times s (cond b 1 0) (s.of_event e)) (total s (λ y. cond (counts y) 1 0) es))) (sym q))))
      counted false q ih =
          ap (λ (b : Bool). fold (with_event s) here (cond b (e ∷ filter counts es) (filter counts es))) q
          ∙ (ih here h
          ∙ (ap (λ x. s.merge here x) (sym (before_settled (total s (λ y. cond (counts y) 1 0) es) (settled_total (λ y. cond (counts y) 1 0) es)))
          ∙ ap (λ (b : Bool). s.merge here (s.merge (times s (cond b 1 0) (s.of_event e)) (total s (λ y. cond (counts y) 1 0) es))) (sym q)))
