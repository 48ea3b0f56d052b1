-- A word among words that ascend is found by halves.
use Rattle.std.proofs.Common.{◌≡◌, ◌≢◌, ℕ, ◌+◌, ◌<◌, ◌≤◌, ◌⊎◌, inl, inr, zero, suc, true, List, [], ◌∷◌, length, get_or, map, Some, None, refl, sym, ap, ◌∙◌, subst, arith}
use Rattle.std.specs.declared.cmp.Ordering.{Ordering}
use Rattle.std.specs.declared.cmp.Ordering.TheVariants.{Less, Equal, Greater}
use Rattle.std.specs.Cmp.Lexicographic.{slice_cmp, bytes_decides, nat_list_cmp_total}
use Rattle.std.specs.Char.{to_ascii_lowercase}
use Rattle.std.specs.List.{AllByRecursion, find}
use Rattle.std.specs.Ordering.{is_eq, is_lt, nat_cmp, ordering_index}
use Rattle.std.proofs.lemmas.Bool.{and_parts, cases_Bool, false≢true}
use Rattle.std.proofs.lemmas.Cmp.{tied_itself}
use Rattle.std.proofs.lemmas.Map.Text.{is_eq-slice_cmp}
use Rattle.pfs_digest.specs.Keywords.{any_case_cmp, ascend, is_below, is_in_any_case}

texts_same : (a b : List ℕ) → slice_cmp nat_cmp a b ≡ Equal → a ≡ b
texts_same a b e = (bytes_decides a b).0 (sym (is_eq-slice_cmp a b) ∙ ap is_eq e)

is_less : (o : Ordering) → is_lt o ≡ true → o ≡ Less
is_less Less e = refl
is_less Equal e = absurd (false≢true e)
is_less Greater e = absurd (false≢true e)

not_itself : (a : List ℕ) → slice_cmp nat_cmp a a ≡ Less → (P : Type 0) → P
not_itself a e P = let tied = tied_itself nat_list_cmp_total a in let clash : Less ≡ Equal = sym e ∙ tied in cc

-- the rank of a lesser word against a third is no greater
ranks : (a b w : List ℕ) (o : Ordering) → slice_cmp nat_cmp a b ≡ Less → slice_cmp nat_cmp b w ≡ o → ordering_index (slice_cmp nat_cmp a w) ≤ ordering_index (slice_cmp nat_cmp b w)
ranks a b w Less less is = rw (nat_list_cmp_total.trans a b w less is, is) (omega arith)
ranks a b w Equal less is = rw (subst (λ (x : List ℕ). slice_cmp nat_cmp a x ≡ Less) (texts_same b w is) less, is) (omega arith)
ranks a b w Greater less is = rw is (most (slice_cmp nat_cmp a w))
  where
    most : (o : Ordering) → ordering_index o ≤ ordering_index Greater
    most Less = omega arith
    most Equal = omega arith
    most Greater = omega arith

module _ {K : Type 0} (text : K → List ℕ) where
  less_than_all : (a b : List ℕ) (ks : List K) → any_case_cmp a b ≡ Less → AllByRecursion (λ k. any_case_cmp b (text k) ≡ Less) ks → AllByRecursion (λ k. any_case_cmp a (text k) ≡ Less) ks
  less_than_all a b [] less all = all
  less_than_all a b (k ∷ ks) less all = (nat_list_cmp_total.trans (map to_ascii_lowercase a) (map to_ascii_lowercase b) (map to_ascii_lowercase (text k)) less all.0, less_than_all a b ks less all.1)

  all_later : (k : K) (ks : List K) → ascend (map text (k ∷ ks)) ≡ true → AllByRecursion (λ later. any_case_cmp (text k) (text later) ≡ Less) ks
  all_later k [] e = tt
  all_later k (next ∷ ks) e =
      let parts = and_parts (is_lt (any_case_cmp (text k) (text next))) (ascend (map text (next ∷ ks))) e in
      let first : any_case_cmp (text k) (text next) ≡ Less = is_less (any_case_cmp (text k) (text next)) parts.0 in
      (first, less_than_all (text k) (text next) ks first (all_later next ks parts.1))

  rest_ascends : (k : K) (ks : List K) → ascend (map text (k ∷ ks)) ≡ true → ascend (map text ks) ≡ true
  rest_ascends k ks e = (and_parts (is_below (text k) (map text ks)) (ascend (map text ks)) e).1

  all_at : (P : K → Type 0) (ks : List K) (i : ℕ) (d : K) → i < length ks → AllByRecursion P ks → P (get_or ks i d)
  all_at P [] i d within all = absurd (omega arith)
  all_at P (k ∷ ks) zero d within all = all.0
  all_at P (k ∷ ks) (suc i) d within all = all_at P ks i d (omega arith) all.1

  -- the answers of a search rise
  rises : (ks : List K) (w : List ℕ) (i j : ℕ) (d : K) → ascend (map text ks) ≡ true → i ≤ j → j < length ks
      → ordering_index (any_case_cmp (text (get_or ks i d)) w) ≤ ordering_index (any_case_cmp (text (get_or ks j d)) w)
  rises [] w i j d e le within = absurd (omega arith)
  rises (k ∷ ks) w zero zero d e le within = omega arith
  rises (k ∷ ks) w zero (suc j) d e le within =
      ranks (map to_ascii_lowercase (text k)) (map to_ascii_lowercase (text (get_or ks j d))) (map to_ascii_lowercase w) (any_case_cmp (text (get_or ks j d)) w)
      (all_at (λ later. any_case_cmp (text k) (text later) ≡ Less) ks j d (omega arith) (all_later k ks e)) refl
  rises (k ∷ ks) w (suc i) zero d e le within = absurd (omega arith)
  rises (k ∷ ks) w (suc i) (suc j) d e le within = rises ks w i j d (rest_ascends k ks e) (omega arith) (omega arith)

  -- the word at a place is the first that it is
  found_at : (ks : List K) (w : List ℕ) (i : ℕ) (d : K) → ascend (map text ks) ≡ true → i < length ks → any_case_cmp (text (get_or ks i d)) w ≡ Equal
      → find (λ keyword. is_in_any_case w keyword) (map text ks) ≡ Some (text (get_or ks i d))
  found_at [] w i d e within same = absurd (omega arith)
  found_at (k ∷ ks) w zero d e within same =
      let is : is_in_any_case w (text k) ≡ true = (bytes_decides (map to_ascii_lowercase w) (map to_ascii_lowercase (text k))).1 (sym (texts_same (map to_ascii_lowercase (text k)) (map to_ascii_lowercase w) same)) in
      rw is refl
  found_at (k ∷ ks) w (suc i) d e within same = elim (cases_Bool (is_in_any_case w (text k))) [
    | inl is ↦
        let here : map to_ascii_lowercase w ≡ map to_ascii_lowercase (text k) = (bytes_decides (map to_ascii_lowercase w) (map to_ascii_lowercase (text k))).0 is in
        let there = texts_same (map to_ascii_lowercase (text (get_or ks i d))) (map to_ascii_lowercase w) same in
        let less = all_at (λ later. any_case_cmp (text k) (text later) ≡ Less) ks i d (omega arith) (all_later k ks e) in
        not_itself (map to_ascii_lowercase (text k)) (subst (λ (x : List ℕ). slice_cmp nat_cmp (map to_ascii_lowercase (text k)) x ≡ Less) (there ∙ here) less)
        (find (λ keyword. is_in_any_case w keyword) (map text (k ∷ ks)) ≡ Some (text (get_or (k ∷ ks) (suc i) d)))
    | inr differs ↦ rw differs (found_at ks w i d (rest_ascends k ks e) (omega arith) same)
  ]

  -- a word that none of them ties with is not found
  found_none : (ks : List K) (w : List ℕ) → ((i : ℕ) (d : K) → i < length ks → any_case_cmp (text (get_or ks i d)) w ≢ Equal) → find (λ keyword. is_in_any_case w keyword) (map text ks) ≡ None
  found_none [] w none = refl
  found_none (k ∷ ks) w none = elim (cases_Bool (is_in_any_case w (text k))) [
    | inl is ↦
        let here : map to_ascii_lowercase w ≡ map to_ascii_lowercase (text k) = (bytes_decides (map to_ascii_lowercase w) (map to_ascii_lowercase (text k))).0 is in
        absurd (none zero k (omega arith) (subst (λ (x : List ℕ). slice_cmp nat_cmp (map to_ascii_lowercase (text k)) x ≡ Equal) (sym here) (tied_itself nat_list_cmp_total (map to_ascii_lowercase (text k)))))
    | inr differs ↦ rw differs (found_none ks w (λ i d within. none (suc i) d (omega arith)))
  ]

  -- the words of the first places are less than the word
  pub AreLess : List K → List ℕ → ℕ → Type 0
  AreLess ks w low = (i : ℕ) (d : K) → i < low → any_case_cmp (text (get_or ks i d)) w ≡ Less

  pub AreGreater : List K → List ℕ → ℕ → Type 0
  AreGreater ks w high = (i : ℕ) (d : K) → high ≤ i → i < length ks → any_case_cmp (text (get_or ks i d)) w ≡ Greater

  lowest : (o : Ordering) → ordering_index o ≤ ordering_index Less → o ≡ Less
  lowest Less le = refl
  lowest Equal le = absurd (omega arith)
  lowest Greater le = absurd (omega arith)

  highest : (o : Ordering) → ordering_index Greater ≤ ordering_index o → o ≡ Greater
  highest Less le = absurd (omega arith)
  highest Equal le = absurd (omega arith)
  highest Greater le = refl

  -- a word less than the one that is sought has only lesser ones before it
  pub more_less : (ks : List K) (w : List ℕ) (middle : ℕ) → ascend (map text ks) ≡ true → middle < length ks → ((d : K) → any_case_cmp (text (get_or ks middle d)) w ≡ Less) → AreLess ks w (middle + 1)
  unfolding AreLess
  more_less ks w middle e within less i d before =
      lowest (any_case_cmp (text (get_or ks i d)) w) (subst (λ (o : Ordering). ordering_index (any_case_cmp (text (get_or ks i d)) w) ≤ ordering_index o) (less d) (rises ks w i middle d e (omega arith) within))

  pub more_greater : (ks : List K) (w : List ℕ) (middle : ℕ) → ascend (map text ks) ≡ true → ((d : K) → any_case_cmp (text (get_or ks middle d)) w ≡ Greater) → AreGreater ks w middle
  unfolding AreGreater
  more_greater ks w middle e greater i d behind within =
      highest (any_case_cmp (text (get_or ks i d)) w) (subst (λ (o : Ordering). ordering_index o ≤ ordering_index (any_case_cmp (text (get_or ks i d)) w)) (greater d) (rises ks w middle i d e behind within))

  -- what a search by halves answers
  pub searched_at : (ks : List K) (w : List ℕ) (i : ℕ) (d : K) → ascend (map text ks) ≡ true → i < length ks → any_case_cmp (text (get_or ks i d)) w ≡ Equal
      → find (λ keyword. is_in_any_case w keyword) (map text ks) ≡ Some (text (get_or ks i d))
  searched_at ks w i d e within same = found_at ks w i d e within same

  -- what stands at a place inside doesn't hang on what is read outside
  pub at_any : (ks : List K) (w : List ℕ) (i : ℕ) (e : K) (o : Ordering) → i < length ks → any_case_cmp (text (get_or ks i e)) w ≡ o → (d : K) → any_case_cmp (text (get_or ks i d)) w ≡ o
  at_any [] w i e o within is d = absurd (omega arith)
  at_any (k ∷ ks) w zero e o within is d = is
  at_any (k ∷ ks) w (suc i) e o within is d = at_any ks w i e o (omega arith) is d

  pub none_less : (ks : List K) (w : List ℕ) → AreLess ks w 0
  unfolding AreLess
  none_less ks w i d before = absurd (omega arith)

  pub none_greater : (ks : List K) (w : List ℕ) → AreGreater ks w (length ks)
  unfolding AreGreater
  none_greater ks w i d behind within = absurd (omega arith)

  pub searched_none : (ks : List K) (w : List ℕ) (low high : ℕ) → high ≤ low → AreLess ks w low → AreGreater ks w high → find (λ keyword. is_in_any_case w keyword) (map text ks) ≡ None
  unfolding AreLess AreGreater
  searched_none ks w low high met less greater =
      found_none ks w (λ k d short tied. elim (sides k low) [
        | inl below ↦ let is : any_case_cmp (text (get_or ks k d)) w ≡ Less = less k d below in let clash : Less ≡ Equal = sym is ∙ tied in cc
        | inr above ↦ let is : any_case_cmp (text (get_or ks k d)) w ≡ Greater = greater k d (omega arith) short in let clash : Greater ≡ Equal = sym is ∙ tied in cc
      ])
    where
      sides : (a b : ℕ) → (a < b) ⊎ (b ≤ a)
      sides a b = grind arith
