-- Behind a truncation what has a connection stands where it stood, and what has none is gone.
use Rattle.std.proofs.Common.{◌≡◌, refl, ℕ, zero, suc, ◌+◌, Bool, true, false, cond, List, [], ◌∷◌, Option, Some, None, slice_index_or, sym, ap, ◌∙◌, arith}
use Rattle.std.specs.Option.{option_map}
use Rattle.std.specs.Prelude.{is_some}
use Rattle.pfs_lemmas.proofs.Numbers.{zero_plus}
use Rattle.pfs_containers.specs.Administration.{current, totals_kept_from}
use Rattle.pfs_containers.specs.Connections.{kept_from}
use Rattle.pfs_containers.specs.declared.containers.Connection.{Connection}
use Rattle.pfs_law_conservation.proofs.LevelPlaces.{level_said}

kept_stays : {X : Type 0} (n q : ℕ) (used : ℕ → Bool) (xs : List (Option X)) → used (n + q) ≡ true → slice_index_or (kept_from n used xs) q None ≡ slice_index_or xs q None
kept_stays n q used [] e = refl
kept_stays n zero used (x ∷ xs) e = let same : n ≡ n + 0 = omega arith in ap (λ b. cond b x None) (ap used same ∙ e)
kept_stays n (suc q) used (x ∷ xs) e = let same : suc n + q ≡ n + suc q = omega arith in kept_stays (suc n) q used xs (ap used same ∙ e)

kept_goes : {X : Type 0} (n q : ℕ) (used : ℕ → Bool) (xs : List (Option X)) → used (n + q) ≡ false → slice_index_or (kept_from n used xs) q None ≡ None
kept_goes n q used [] e = refl
kept_goes n zero used (x ∷ xs) e = let same : n ≡ n + 0 = omega arith in ap (λ b. cond b x None) (ap used same ∙ e)
kept_goes n (suc q) used (x ∷ xs) e = let same : suc n + q ≡ n + suc q = omega arith in kept_goes (suc n) q used xs (ap used same ∙ e)

totals_stay : (n q : ℕ) (used : ℕ → Bool) (totals : List ℕ) → used (n + q) ≡ true → slice_index_or (totals_kept_from n used totals) q 0 ≡ slice_index_or totals q 0
totals_stay n q used [] e = refl
totals_stay n zero used (total ∷ totals) e = let same : n ≡ n + 0 = omega arith in ap (λ b. cond {A = ℕ} b total 0) (ap used same ∙ e)
totals_stay n (suc q) used (total ∷ totals) e = let same : suc n + q ≡ n + suc q = omega arith in totals_stay (suc n) q used totals (ap used same ∙ e)

-- a place that is free stays so
pub free_stays : {X : Type 0} (q : ℕ) (used : ℕ → Bool) (xs : List (Option X)) → slice_index_or xs q None ≡ None → slice_index_or (kept_from 0 used xs) q None ≡ None
free_stays q used xs e = on (used q) refl where
  on : (b : Bool) → used q ≡ b → slice_index_or (kept_from 0 used xs) q None ≡ None
  on true u = kept_stays 0 q used xs (ap used (zero_plus q) ∙ u) ∙ e
  on false u = kept_goes 0 q used xs (ap used (zero_plus q) ∙ u)

-- and so does what is in use
pub used_stays : {X : Type 0} (q : ℕ) (used : ℕ → Bool) (xs : List (Option X)) → used q ≡ true → slice_index_or (kept_from 0 used xs) q None ≡ None → slice_index_or xs q None ≡ None
used_stays q used xs u e = sym (kept_stays 0 q used xs (ap used (zero_plus q) ∙ u)) ∙ e

pub not_there : {X Y : Type 0} (f : X → Y) (o : Option X) → is_some (option_map f o) ≡ false → o ≡ None
not_there f None e = refl
not_there f (Some x) e = absurd (cc)

-- what a place says, by what stands there
abbrev shown : {X : Type 0} → (X → ℕ → ℕ → List ℕ) → ℕ → Option X → ℕ → Option (List ℕ)
shown make now entry total = option_map (λ e. make e now total) entry

-- what still stands at a place, with as many connections in all, says the same as before
pub kept_same : {X : Type 0} (which : Connection → Option ℕ) (make : X → ℕ → ℕ → List ℕ) (used : ℕ → Bool) (entries : List (Option X)) (threads : List (Option Connection)) (totals : List ℕ) (q : ℕ) (words : List ℕ)
    → level_said which make (kept_from 0 used entries) threads (totals_kept_from 0 used totals) q ≡ Some words
    → level_said which make (kept_from 0 used entries) threads (totals_kept_from 0 used totals) q ≡ level_said which make entries threads totals q
kept_same which make used entries threads totals q words says = on (used q) refl where
  on : (b : Bool) → used q ≡ b → level_said which make (kept_from 0 used entries) threads (totals_kept_from 0 used totals) q ≡ level_said which make entries threads totals q
  on true u =
      ap (λ entry. shown make (current which threads q) entry (slice_index_or (totals_kept_from 0 used totals) q 0)) (kept_stays 0 q used entries (ap used (zero_plus q) ∙ u))
      ∙ ap (λ total. shown make (current which threads q) (slice_index_or entries q None) total) (totals_stay 0 q used totals (ap used (zero_plus q) ∙ u))
  on false u =
      let gone : level_said which make (kept_from 0 used entries) threads (totals_kept_from 0 used totals) q ≡ None
      = ap (λ entry. shown make (current which threads q) entry (slice_index_or (totals_kept_from 0 used totals) q 0)) (kept_goes 0 q used entries (ap used (zero_plus q) ∙ u)) in
      absurd (let k : Some words ≡ None = sym says ∙ gone in cc)
