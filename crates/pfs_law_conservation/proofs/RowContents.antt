-- What lines make of a row, change after change, where each makes its row's content of the one before.
use Rattle.std.proofs.Common.{◌≡◌, refl, ℕ, zero, suc, ◌+◌, ◌-◌, ◌<◌, ◌≤◌, ◌==◌, Bool, true, false, cond, List, [], ◌∷◌, ◌++◌, length, fold, sym, ap, subst, ◌∙◌, arith}
use Rattle.std.proofs.lemmas.List.Sums.{fold-append}
use Rattle.std.proofs.lemmas.Bool.{and_parts, eqb-true}
use Rattle.pfs_conservation.specs.RowChains.{Change, Added, Taken, Given, Sums, with_event, changed, content, found_in}
use Rattle.pfs_conservation.specs.PrintedChanges.{Tagged, change_of, is_at, standing, chain_from}
use Rattle.pfs_model.specs.Chains.{Each}
use Rattle.pfs_law_conservation.proofs.SingleTakes.{takes_number}

-- one version of a row stands in one line
pub one_stands : (P : Tagged → Type 0) (lines : List Tagged) (row version : ℕ) → Each P lines → length (standing lines row version) ≡ 1
    → (line : Tagged) × (standing lines row version ≡ change_of line ∷ []) × (line.row ≡ row) × (line.version ≡ version) × P line
one_stands P [] row version h e = absurd (omega (arith, e))
one_stands P (line ∷ lines) row version h e = at (is_at line row version) refl e (one_stands P lines row version h.1) where
  empty : (xs : List Change) → suc (length xs) ≡ 1 → xs ≡ []
  empty [] e = refl
  empty (x ∷ xs) e = absurd (omega (arith, e))

  at : (b : Bool) → is_at line row version ≡ b → length (cond b (change_of line ∷ []) [] ++ standing lines row version) ≡ 1
      → (length (standing lines row version) ≡ 1 → (line : Tagged) × (standing lines row version ≡ change_of line ∷ []) × (line.row ≡ row) × (line.version ≡ version) × P line)
      → (one : Tagged) × (cond b (change_of line ∷ []) [] ++ standing lines row version ≡ change_of one ∷ []) × (one.row ≡ row) × (one.version ≡ version) × P one
  at true q e go =
      let b : ((line.row == row) ≡ true) × ((line.version == version) ≡ true) = and_parts (line.row == row) (line.version == version) q in
      (line, ap (λ (xs : List Change). change_of line ∷ xs) (empty (standing lines row version) e), eqb-true line.row row b.0, eqb-true line.version version b.1, h.0)
  at false q e go = go e

-- chains go on behind their fronts
pub chain_split : (lines : List Tagged) (row version first more : ℕ) → chain_from lines row version (first + more) ≡ chain_from lines row version first ++ chain_from lines row (version + first) more
chain_split lines row version zero more = ap (λ n. chain_from lines row version n) (left more) ∙ ap (λ v. chain_from lines row v more) (plus version) where
  left : (n : ℕ) → 0 + n ≡ n
  left n = omega arith

  plus : (n : ℕ) → n ≡ n + 0
  plus n = omega arith
chain_split lines row version (suc first) more =
    ap (λ n. chain_from lines row version n) (left first more)
    ∙ (ap (λ (z : List Change). standing lines row version ++ z) (chain_split lines row (suc version) first more ∙ ap (λ v. chain_from lines row (suc version) first ++ chain_from lines row v more) (shift version first))
    ∙ sym (assoc (standing lines row version) (chain_from lines row (suc version) first) (chain_from lines row (version + suc first) more))) where
      left : (a b : ℕ) → suc a + b ≡ suc (a + b)
      left a b = omega arith

      shift : (a b : ℕ) → suc a + b ≡ a + suc b
      shift a b = omega arith

      assoc : (xs ys zs : List Change) → (xs ++ ys) ++ zs ≡ xs ++ (ys ++ zs)
      assoc [] ys zs = refl
      assoc (x ∷ xs) ys zs = ap (λ (z : List Change). x ∷ z) (assoc xs ys zs)

no_more : (xs : List Change) → xs ++ [] ≡ xs
no_more [] = refl
no_more (x ∷ xs) = ap (λ (zs : List Change). x ∷ zs) (no_more xs)

pub chain_more : (lines : List Tagged) (row k : ℕ) → chain_from lines row 1 (suc k) ≡ chain_from lines row 1 k ++ standing lines row (suc k)
chain_more lines row k =
    ap (λ n. chain_from lines row 1 n) (plus k)
    ∙ (chain_split lines row 1 k 1 ∙ ap (λ (z : List Change). chain_from lines row 1 k ++ z) (no_more (standing lines row (1 + k)) ∙ ap (λ n. standing lines row n) (one k))) where
      plus : (n : ℕ) → suc n ≡ n + 1
      plus n = omega arith

      one : (n : ℕ) → 1 + n ≡ suc n
      one n = omega arith

module _ {A : Type 0} (sums : Sums A) (stands : ℕ → ℕ → A) where
  -- a line makes the content of its row, by what takes found
  abbrev pub IsMade : (ℕ → ℕ → A) → Tagged → Type 0
  IsMade found line = (before : ℕ) × (line.version ≡ before + 1) × (stands line.row line.version ≡ changed sums found (stands line.row before) (change_of line))

  -- so what lines make of a row up to a version is what stands there
  pub content_stands : (found : ℕ → ℕ → A) (lines : List Tagged) (row count : ℕ)
      → Each (λ (line : Tagged). line.row ≡ row → IsMade found line) lines
      → ((before : ℕ) → before < count → length (standing lines row (suc before)) ≡ 1) → stands row 0 ≡ sums.nothing
      → (k : ℕ) → k ≤ count → content sums found (chain_from lines row 1 k) ≡ stands row k
  content_stands found lines row count made one opens zero l = sym opens
  content_stands found lines row count made one opens (suc k) l =
      ap (content sums found) (chain_more lines row k)
      ∙ (fold-append (changed sums found) sums.nothing (chain_from lines row 1 k) (standing lines row (suc k))
      ∙ (ap (λ (x : A). fold (changed sums found) x (standing lines row (suc k))) (content_stands found lines row count made one opens k (omega (arith, l)))
      ∙ on (one_stands (λ (line : Tagged). line.row ≡ row → IsMade found line) lines row (suc k) made (one k (omega (arith, l)))))) where
        on : (line : Tagged) × (standing lines row (suc k) ≡ change_of line ∷ []) × (line.row ≡ row) × (line.version ≡ suc k) × (line.row ≡ row → IsMade found line)
            → fold (changed sums found) (stands row k) (standing lines row (suc k)) ≡ stands row (suc k)
        on (line, s, r, v, m) = by (m r) where
          by : IsMade found line → fold (changed sums found) (stands row k) (standing lines row (suc k)) ≡ stands row (suc k)
          by (before, n, c) =
              let b : before ≡ k = omega (arith, n, v) in
              ap (fold (changed sums found) (stands row k)) s
              ∙ (ap (λ x. changed sums found x (change_of line)) (sym (ap (λ z. stands z before) r ∙ ap (stands row) b))
              ∙ (sym c ∙ (ap (λ z. stands z line.version) r ∙ ap (stands row) v)))

  -- what an action's first take found
  pub found_front : (found : ℕ → ℕ → A) (action : ℕ) (here : A) (xs ys : List Change) → Each (λ c. takes_number action c ≡ false) xs
      → found_in sums found here action (xs ++ Taken action ∷ ys) ≡ fold (changed sums found) here xs
  found_front found action here [] ys n = ap (λ b. cond b here (found_in sums found sums.nothing action ys)) (eq_self action) where
    eq_self : (n : ℕ) → (n == n) ≡ true
    eq_self n = grind arith
  found_front found action here (Added events ∷ xs) ys n = found_front found action (fold (with_event sums) here events) xs ys n.1
  found_front found action here (Taken number ∷ xs) ys n =
      ap (λ b. cond b here (found_in sums found sums.nothing action (xs ++ Taken action ∷ ys))) n.0 ∙ found_front found action sums.nothing xs ys n.1
  found_front found action here (Given number from ∷ xs) ys n = found_front found action (sums.merge here (found number from)) xs ys n.1

  -- is what stood at the version before it
  pub found_stands : (found : ℕ → ℕ → A) (lines : List Tagged) (row count : ℕ)
      → Each (λ (line : Tagged). line.row ≡ row → IsMade found line) lines
      → ((before : ℕ) → before < count → length (standing lines row (suc before)) ≡ 1) → stands row 0 ≡ sums.nothing
      → (action before : ℕ) → before < count → standing lines row (suc before) ≡ Taken action ∷ []
      → ((earlier : ℕ) → earlier < before → Each (λ c. takes_number action c ≡ false) (standing lines row (suc earlier)))
      → found_in sums found sums.nothing action (chain_from lines row 1 count) ≡ stands row before
  found_stands found lines row count made one opens action before l s first =
      ap (found_in sums found sums.nothing action) split
      ∙ (found_front found action sums.nothing (chain_from lines row 1 before) (chain_from lines row (suc (1 + before)) (count - suc before)) (none before (omega arith))
      ∙ content_stands found lines row count made one opens before (omega (arith, l))) where
        split : chain_from lines row 1 count ≡ chain_from lines row 1 before ++ Taken action ∷ chain_from lines row (suc (1 + before)) (count - suc before)
        split =
            ap (λ n. chain_from lines row 1 n) (parts count before l)
            ∙ (chain_split lines row 1 before (suc (count - suc before))
            ∙ ap (λ (z : List Change). chain_from lines row 1 before ++ (z ++ chain_from lines row (suc (1 + before)) (count - suc before))) (ap (λ n. standing lines row n) (plus before) ∙ s)) where
              parts : (n b : ℕ) → b < n → n ≡ b + suc (n - suc b)
              parts n b l = omega (arith, l)

              plus : (n : ℕ) → 1 + n ≡ suc n
              plus n = omega arith

        each_join : (xs ys : List Change) → Each (λ c. takes_number action c ≡ false) xs → Each (λ c. takes_number action c ≡ false) ys → Each (λ c. takes_number action c ≡ false) (xs ++ ys)
        each_join [] ys a b = b
        each_join (x ∷ xs) ys a b = (a.0, each_join xs ys a.1 b)

        none : (k : ℕ) → k ≤ before → Each (λ c. takes_number action c ≡ false) (chain_from lines row 1 k)
        none zero h = tt
        none (suc k) h = subst (Each (λ c. takes_number action c ≡ false)) (sym (chain_more lines row k)) (each_join (chain_from lines row 1 k) (standing lines row (suc k)) (none k (omega (arith, h))) (first k (omega (arith, h))))
