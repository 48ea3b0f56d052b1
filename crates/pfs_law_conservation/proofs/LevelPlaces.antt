-- What stands at the places of accounts, users and hosts behind a connect and behind a quit.
use Rattle.std.proofs.Common.{◌≡◌, refl, ℕ, zero, suc, ◌+◌, ◌==◌, Bool, true, false, cond, List, [], ◌∷◌, Option, Some, None, slice_index_or, sym, ap, ◌∙◌, arith}
use Rattle.std.specs.Option.{option_map}
use Rattle.std.proofs.lemmas.Bool.{eqb-true}
use Rattle.pfs_containers.proofs.SlotOwners.{filled_count, emptied_count}
use Rattle.pfs_containers.specs.Administration.{current, lowest_free, added_from}
use Rattle.pfs_containers.specs.Connections.{entry_at, fill_at, fill, emptied_at, is_from, has_by}
use Rattle.pfs_containers.specs.declared.containers.Connection.{Connection}

pub read_at : {X : Type 0} (xs : List (Option X)) (n : ℕ) → slice_index_or xs n None ≡ entry_at xs n
read_at [] n = refl
read_at (x ∷ xs) zero = refl
read_at (x ∷ xs) (suc n) = read_at xs n

-- what stands at a place stays there, and at any other place nothing changes
fill_keeps : {X : Type 0} (n q : ℕ) (new : X) (xs : List (Option X)) → slice_index_or (fill_at n new xs) q None ≡ None → slice_index_or xs q None ≡ None
fill_keeps n q new [] e = refl
fill_keeps zero zero new (x ∷ xs) e = absurd (cc)
fill_keeps zero (suc q) new (x ∷ xs) e = e
fill_keeps (suc n) zero new (x ∷ xs) e = e
fill_keeps (suc n) (suc q) new (x ∷ xs) e = fill_keeps n q new xs e

fill_others : {X : Type 0} (n q : ℕ) (new : X) (xs : List (Option X)) → (n ≡ q → ⊥) → slice_index_or (fill_at n new xs) q None ≡ slice_index_or xs q None
fill_others n q new [] ne = refl
fill_others zero zero new (x ∷ xs) ne = absurd (ne refl)
fill_others zero (suc q) new (x ∷ xs) ne = refl
fill_others (suc n) zero new (x ∷ xs) ne = refl
fill_others (suc n) (suc q) new (x ∷ xs) ne = fill_others n q new xs (λ e. ne (ap suc e))

pub filled_keeps : {X : Type 0} (place : Option ℕ) (q : ℕ) (new : X) (xs : List (Option X)) → slice_index_or (fill place new xs) q None ≡ None → slice_index_or xs q None ≡ None
filled_keeps None q new xs e = e
filled_keeps (Some n) q new xs e = fill_keeps n q new xs e

filled_others : {X : Type 0} (place : Option ℕ) (q : ℕ) (new : X) (xs : List (Option X)) → (place ≡ Some q → ⊥) → slice_index_or (fill place new xs) q None ≡ slice_index_or xs q None
filled_others None q new xs ne = refl
filled_others (Some n) q new xs ne = fill_others n q new xs (λ e. ne (ap Some e))

from_others : (q : ℕ) (place : Option ℕ) → (place ≡ Some q → ⊥) → is_from q place ≡ false
from_others q None ne = refl
from_others q (Some n) ne = on (n == q) refl where
  on : (b : Bool) → (n == q) ≡ b → b ≡ false
  on true e = absurd (ne (ap Some (eqb-true n q e)))
  on false e = refl

added_others : (n q : ℕ) (place : Option ℕ) (totals : List ℕ) → (place ≡ Some (n + q) → ⊥) → slice_index_or (added_from n place totals) q 0 ≡ slice_index_or totals q 0
added_others n q place [] ne = refl
added_others n zero place (total ∷ totals) ne = ap (λ b. cond {A = ℕ} b 1 0 + total) (from_others n place (λ e. ne (e ∙ ap Some (plus n)))) ∙ zero_plus total where
  plus : (n : ℕ) → n ≡ n + 0
  plus n = omega arith

  zero_plus : (n : ℕ) → 0 + n ≡ n
  zero_plus n = omega arith
added_others n (suc q) place (total ∷ totals) ne = added_others (suc n) q place totals (λ e. ne (e ∙ ap Some (plus n q))) where
  plus : (n q : ℕ) → suc n + q ≡ n + suc q
  plus n q = omega arith

-- what a level says of a place: of its entry there, the connections now and in all
abbrev pub level_said : {X : Type 0} → (Connection → Option ℕ) → (X → ℕ → ℕ → List ℕ) → List (Option X) → List (Option Connection) → List ℕ → ℕ → Option (List ℕ)
level_said which make entries threads totals place =
    option_map (λ entry. make entry (current which threads place) (slice_index_or totals place 0)) (slice_index_or entries place None)

module _ {X : Type 0} (which : Connection → Option ℕ) (make : X → ℕ → ℕ → List ℕ) where
  abbrev shown : Option X → ℕ → ℕ → Option (List ℕ)
  shown entry now all = option_map (λ e. make e now all) entry

  shown_none : (entry : Option X) (now all : ℕ) → shown entry now all ≡ None → entry ≡ None
  shown_none None now all e = refl
  shown_none (Some x) now all e = absurd (cc)

  none_shown : (entry : Option X) (now all : ℕ) → entry ≡ None → shown entry now all ≡ None
  none_shown entry now all e = ap (λ z. shown z now all) e

  same_shown : (a b : Option X) (m n s t : ℕ) → a ≡ b → m ≡ n → s ≡ t → shown a m s ≡ shown b n t
  same_shown a b m n s t e f g = ap (λ z. shown z m s) e ∙ (ap (λ z. shown b z s) f ∙ ap (λ z. shown b n z) g)

  -- behind a connect
  pub connect_empty : (x : Connection) (slot q : ℕ) (new : X) (entries : List (Option X)) (threads : List (Option Connection)) (totals : List ℕ)
      → level_said which make (fill (which x) new entries) (fill_at slot x threads) (added_from 0 (which x) totals) q ≡ None → level_said which make entries threads totals q ≡ None
  connect_empty x slot q new entries threads totals e =
      none_shown (slice_index_or entries q None) _ _ (filled_keeps (which x) q new entries (shown_none (slice_index_or (fill (which x) new entries) q None) _ _ e))

  pub connect_same : (x : Connection) (slot q : ℕ) (new : X) (entries : List (Option X)) (threads : List (Option Connection)) (totals : List ℕ) → lowest_free threads ≡ Some slot
      → (which x ≡ Some q → ⊥)
      → level_said which make (fill (which x) new entries) (fill_at slot x threads) (added_from 0 (which x) totals) q ≡ level_said which make entries threads totals q
  connect_same x slot q new entries threads totals free ne =
      same_shown _ _ _ _ _ _ (filled_others (which x) q new entries ne)
      (filled_count which q slot x threads free ∙ (ap (λ b. current which threads q + cond {A = ℕ} b 1 0) (from_others q (which x) ne) ∙ plus_zero (current which threads q)))
      (added_others 0 q (which x) totals (λ e. ne (e ∙ ap Some (zero_plus q)))) where
        plus_zero : (n : ℕ) → n + 0 ≡ n
        plus_zero n = omega arith

        zero_plus : (n : ℕ) → 0 + n ≡ n
        zero_plus n = omega arith

  -- behind a quit of the session that stands in a slot
  pub quit_empty : (slot q : ℕ) (entries : List (Option X)) (threads : List (Option Connection)) (totals : List ℕ)
      → level_said which make entries (emptied_at slot threads) totals q ≡ None → level_said which make entries threads totals q ≡ None
  quit_empty slot q entries threads totals e = none_shown (slice_index_or entries q None) _ _ (shown_none (slice_index_or entries q None) _ _ e)

  pub quit_same : (x : Connection) (slot q : ℕ) (entries : List (Option X)) (threads : List (Option Connection)) (totals : List ℕ) → entry_at threads slot ≡ Some x
      → (which x ≡ Some q → ⊥)
      → level_said which make entries (emptied_at slot threads) totals q ≡ level_said which make entries threads totals q
  quit_same x slot q entries threads totals is ne =
      ap (λ n. shown (slice_index_or entries q None) n (slice_index_or totals q 0))
      (sym (emptied_count which q slot threads
      ∙ (ap (λ (o : Option Connection). current which (emptied_at slot threads) q + cond {A = ℕ} (has_by which q o) 1 0) is
      ∙ (ap (λ b. current which (emptied_at slot threads) q + cond {A = ℕ} b 1 0) (from_others q (which x) ne) ∙ plus_zero (current which (emptied_at slot threads) q))))) where
        plus_zero : (n : ℕ) → n + 0 ≡ n
        plus_zero n = omega arith
