-- Sums over the versions of the words, and what the writer's sets come to.
use Rattle.std.proofs.Common.{ℕ, zero, suc, ◌≡◌, ◌≢◌, ◌+◌, ◌<◌, ◌≤◌, ◌&&◌, Bool, true, false, List, [], ◌∷◌, refl, ap, sym, ◌∙◌, subst, inl, inr, arith, eq-eqb, ne_eqb}
use Rattle.std.proofs.lemmas.Bool.{cases_eq}
use Rattle.pfs_board.specs.History.{Each}
use Rattle.pfs_levels.specs.JointCalls.{total, Setting, word_version, flags_at, AreWordsCounted}
use Rattle.pfs_board_store.proofs.ActionLabels.{each_map}
use Rattle.pfs_board_store.proofs.ListSums.{total_one, total_nil}
use Rattle.pfs_board_store.proofs.ViewCorners.{here_if, away_if}

module _ (weigh : ℕ → ℕ → ℕ) where
  -- what a word's versions weigh, from 1 to this one
  abbrev pub upto : ℕ → ℕ → ℕ
  upto at zero = 0
  upto at (suc k) = weigh at (suc k) + upto at k

  -- what those of the words below n weigh
  unfoldable pub spread : ℕ → (ℕ → ℕ) → ℕ
  spread zero f = 0
  spread (suc n) f = upto n (f n) + spread n f

  upto_next : (at k : ℕ) → upto at (k + 1) ≡ weigh at (k + 1) + upto at k
  upto_next at k = let e : k + 1 ≡ suc k = omega arith in ap (upto at) e ∙ ap (λ z. weigh at z + upto at k) (sym e)

  pub spread_same : (n : ℕ) (f g : ℕ → ℕ) → ((q : ℕ) → q < n → f q ≡ g q) → spread n f ≡ spread n g
  unfolding spread
  spread_same zero f g e = refl
  spread_same (suc n) f g e = (λ j. upto n (e n (omega arith) j) + spread_same n f g (λ q low. e q (omega (arith, low))) j)

  -- one word has one version more
  pub spread_more : (n at : ℕ) (f g : ℕ → ℕ) → at < n → g at ≡ f at + 1 → ((q : ℕ) → q ≢ at → g q ≡ f q) → spread n g ≡ weigh at (f at + 1) + spread n f
  unfolding spread
  spread_more zero at f g low here away = absurd (omega (arith, low))
  spread_more (suc n) at f g low here away = elim (cases_eq at n) [
    | inl e ↦
        let P : ℕ → Type 0 = λ z. g z ≡ f z + 1 in
        let top : upto n (g n) ≡ weigh n (f n + 1) + upto n (f n) = ap (upto n) (subst P e here) ∙ upto_next n (f n) in
        let rest : spread n g ≡ spread n f = spread_same n g f (λ q less. away q (λ i. omega (arith, i, e, less))) in
        let one : weigh at (f at + 1) ≡ weigh n (f n + 1) = ap (λ z. weigh z (f z + 1)) e in
        omega (arith, top, rest, one)
    | inr apart ↦
        let top : upto n (g n) ≡ upto n (f n) = ap (upto n) (away n (λ i. apart (sym i))) in
        omega (arith, top, spread_more n at f g (let ne : at ≢ n = apart in omega (arith, low, ne)) here away)
  ]

  pub spread_none : (n : ℕ) (f : ℕ → ℕ) → ((q : ℕ) → f q ≡ 0) → spread n f ≡ 0
  unfolding spread
  spread_none zero f e = refl
  spread_none (suc n) f e = let top : upto n (f n) ≡ 0 = ap (upto n) (e n) in omega (arith, top, spread_none n f e)

-- a set by its word and version, where flags are known
abbrev pub set_at : (ℕ → ℕ → ℕ) → ℕ → ℕ → Setting
set_at flags at k = record { word = at; version = k; flags = flags at k }

one_more_set : (s : Setting) (ss : List Setting) → word_version (s ∷ ss) s.word ≡ word_version ss s.word + 1
unfolding word_version
one_more_set s ss = here_if s.word (word_version ss s.word + 1) (word_version ss s.word)

same_set : (s : Setting) (ss : List Setting) (q : ℕ) → q ≢ s.word → word_version (s ∷ ss) q ≡ word_version ss q
unfolding word_version
same_set s ss q apart = away_if s.word q (word_version ss q + 1) (word_version ss q) apart

none_set : (q : ℕ) → word_version [] q ≡ 0
unfolding word_version
none_set q = refl

pub sets_sum : (h : Setting → ℕ) (flags : ℕ → ℕ → ℕ) (ss : List Setting) → AreWordsCounted ss → Each (λ s. s.word < 160) ss → Each (λ s. s.flags ≡ flags s.word s.version) ss
    → total h ss ≡ spread (λ at k. h (set_at flags at k)) 160 (word_version ss)
sets_sum h flags [] c low is = total_nil h ∙ sym (spread_none (λ at k. h (set_at flags at k)) 160 (word_version []) none_set)
sets_sum h flags (s ∷ ss) c low is =
    let one : h s ≡ h (set_at flags s.word (word_version ss s.word + 1)) =
    ap (λ z. h (record { word = s.word; version = s.version; flags = z })) is.0 ∙ ap (λ k. h (set_at flags s.word k)) c.0 in
    omega (arith, total_one h s ss, one, sets_sum h flags ss c.1 low.1 is.1, spread_more (λ at k. h (set_at flags at k)) 160 s.word (word_version ss) (word_version (s ∷ ss)) low.0 (one_more_set s ss) (same_set s ss))

-- each set has the flags of its version, since no other made that
grows : (s : Setting) (ss : List Setting) (q : ℕ) → word_version ss q ≤ word_version (s ∷ ss) q
grows s ss q = elim (cases_eq q s.word) [
  | inl e ↦ omega (arith, one_more_set s ss, ap (word_version ss) e, ap (word_version (s ∷ ss)) e)
  | inr apart ↦ omega (arith, same_set s ss q apart)
]

few_sets : (ss : List Setting) → AreWordsCounted ss → Each (λ s. s.version ≤ word_version ss s.word) ss
few_sets [] c = tt
few_sets (s ∷ ss) c =
    let P : Setting → Type 0 = λ q. q.version ≤ word_version ss q.word in
    let Q : Setting → Type 0 = λ q. q.version ≤ word_version (s ∷ ss) q.word in
    (omega (arith, c.0, one_more_set s ss), each_map P Q (λ q le. omega (arith, le, grows s ss q.word)) ss (few_sets ss c.1))

flags_here : (flags : List ℕ) (s : Setting) (ss : List Setting) → flags_at flags (s ∷ ss) s.word s.version ≡ s.flags
unfolding flags_at
flags_here flags s ss = rw (eq-eqb s.word s.word refl, eq-eqb s.version s.version refl) refl

flags_away : (flags : List ℕ) (s q : Setting) (ss : List Setting) → (s.word ≡ q.word → s.version ≢ q.version) → flags_at flags (s ∷ ss) q.word q.version ≡ flags_at flags ss q.word q.version
unfolding flags_at
flags_away flags s q ss apart = elim (cases_eq s.word q.word) [
  | inl e ↦ rw (ne_eqb s.version q.version (apart e), eq-eqb s.word q.word e) refl
  | inr n ↦ rw (ne_eqb s.word q.word n) refl
]

pub sets_flags : (flags : List ℕ) (ss : List Setting) → AreWordsCounted ss → Each (λ s. s.flags ≡ flags_at flags ss s.word s.version) ss
sets_flags flags [] c = tt
sets_flags flags (s ∷ ss) c =
    let P : Setting → Type 0 = λ q. (q.version ≤ word_version ss q.word) × (q.flags ≡ flags_at flags ss q.word q.version) in
    let Q : Setting → Type 0 = λ q. q.flags ≡ flags_at flags (s ∷ ss) q.word q.version in (
      sym (flags_here flags s ss),
      each_map P Q (λ q x. x.1 ∙ sym (flags_away flags s q ss (λ e v. omega (arith, v, x.0, c.0, ap (word_version ss) e)))) ss (each_two (λ q. q.version ≤ word_version ss q.word) (λ q. q.flags ≡ flags_at flags ss q.word q.version) ss (few_sets ss c.1) (sets_flags flags ss c.1)),
    ) where
      each_two : (P Q : Setting → Type 0) (xs : List Setting) → Each P xs → Each Q xs → Each (λ x. P x × Q x) xs
      each_two P Q [] p q = tt
      each_two P Q (x ∷ xs) p q = ((p.0, q.0), each_two P Q xs p.1 q.1)
