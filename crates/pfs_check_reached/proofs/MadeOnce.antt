-- One thing at most is made of a row at a version.
use Rattle.std.proofs.Common.{◌≡◌, ℕ, ◌+◌, ◌-◌, List, [], ◌∷◌, sym, ◌∙◌, ap, arith}
use Rattle.std.proofs.lemmas.Option.{same_Some}
use Rattle.pfs_event.specs.declared.entry.Entry.TheVariants as says
use Rattle.pfs_law_replay.specs.SingleChanges.{StandOnce}
use Rattle.pfs_model.specs.Chains.{change_at, row_change}
use Rattle.pfs_model.specs.Contents.{Given, content_after, opening_words}
use Rattle.pfs_model.specs.EntryPlaces.{Placed}
use Rattle.pfs_check_faults.specs.ActionFaults.{Changes, Gives, IsMade, Opens}

number_up : (one other : ℕ) → one + 1 ≡ other + 1 → one ≡ other
number_up one other e = omega (arith, e)

none_up : (n : ℕ) → 0 ≡ n + 1 → ⊥
none_up n e = omega (arith, e)

same_change : (row r v w : ℕ) → row ≡ r → v ≡ w → (change_at r w ∷ []) ≡ (change_at row v ∷ [])
same_change row r v w p q = ap (λ z. change_at z w ∷ []) (sym p) ∙ ap (λ z. change_at row z ∷ []) (sym q)

module _ (given : Given) (all : List Placed) (once : StandOnce all) where
  pub same_made : {row version : ℕ} {words : List ℕ} → IsMade given all row version words → {r v : ℕ} {w : List ℕ} → IsMade given all r v w
      → row ≡ r → version ≡ v → words ≡ w
  same_made (Opens row words e) (Opens r w f) p q = e ∙ ap opening_words p ∙ sym f
  same_made (Opens row words e) (Changes place r before here w among change never made f) p q = absurd (none_up before q)
  same_made (Opens row words e) (Gives place r before from here source w among give own made taken f) p q = absurd (none_up before q)
  same_made (Changes place row before here words among change never made e) (Opens r w f) p q = absurd (none_up before (sym q))
  same_made (Gives place row before from here source words among give own made taken e) (Opens r w f) p q = absurd (none_up before (sym q))
  same_made (Changes place row before here words among change never made e) (Changes other r earlier there w behind changes nought makes f) p q =
      let same : place ≡ other = once (change_at row (before + 1)) place other among behind change (changes ∙ same_change row r (before + 1) (earlier + 1) p q) in
      e ∙ ap (λ z. content_after given (λ other version. []) place place.context z place.entry) (same_made made makes p (number_up before earlier q))
      ∙ ap (λ (z : Placed). content_after given (λ other version. []) z z.context there z.entry) same ∙ sym f
  same_made (Changes place row before here words among change never made e) (Gives other r earlier from there source w behind give own makes taken f) p q =
      let same : place ≡ other = once (change_at row (before + 1)) place other among behind change (ap row_change give ∙ same_change row r (before + 1) (earlier + 1) p q) in
      absurd (never from (ap (λ (z : Placed). z.entry) same ∙ give ∙ ap (λ z. says.Give z (earlier + 1) from) (sym p) ∙ ap (λ z. says.Give row z from) (sym q)))
  same_made (Gives place row before from here source words among give own made taken e) (Changes other r earlier there w behind changes nought makes f) p q =
      let same : place ≡ other = once (change_at row (before + 1)) place other among behind (ap row_change give) (changes ∙ same_change row r (before + 1) (earlier + 1) p q) in
      absurd (nought from (ap (λ (z : Placed). z.entry) (sym same) ∙ give ∙ ap (λ z. says.Give z (before + 1) from) p ∙ ap (λ z. says.Give r z from) q))
  same_made (Gives place row before from here source words among give own made taken e) (Gives other r earlier from2 there source2 w behind give2 own2 makes taken2 f) p q =
      let same : place ≡ other = once (change_at row (before + 1)) place other among behind (ap row_change give) (ap row_change give2 ∙ same_change row r (before + 1) (earlier + 1) p q) in
      let from_is : from ≡ from2 = same_Some from from2 (sym own ∙ ap (λ (z : Placed). z.context.source) same ∙ own2) in
      let source_is : source ≡ source2 = same_made taken taken2 from_is (ap (λ (z : Placed). z.context.source_version - 1) same) in
      e ∙ ap (λ z. content_after given (λ other version. source) place place.context z place.entry) (same_made made makes p (number_up before earlier q))
      ∙ ap (λ (z : Placed). content_after given (λ other version. source) z z.context there z.entry) same
      ∙ ap (λ z. content_after given (λ o version. z) other other.context there other.entry) source_is ∙ sym f
