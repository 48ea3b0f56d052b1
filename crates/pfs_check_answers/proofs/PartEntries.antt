-- Entries from a place of a journal on, collected one by one.
use Rattle.std.proofs.Common.{◌≡◌, refl, ℕ, zero, suc, ◌+◌, ◌<◌, List, [], ◌∷◌, ◌++◌, drop, get_or, length, take, sym, ◌∙◌, ap, Some, arith, get_or-drop, length-drop}
use Rattle.std.specs.Prelude.{slice_get}
use Rattle.std.proofs.lemmas.List.{length-take, take_more}
use Rattle.pfs_event.specs.declared.entry.Entry.{Entry}

got : (xs : List Entry) (i : ℕ) (x : Entry) → slice_get xs i ≡ Some x → get_or xs i x ≡ x
got [] i x e = absurd (cc)
got (y ∷ ys) zero x e = let f : y ≡ x = cc in f
got (y ∷ ys) (suc i) x e = got ys i x e

module _ (entries : List Entry) (start count : ℕ) where
  -- so many of them are in the journal
  pub within : (step : ℕ) → step < length (take count (drop start entries)) → start + step < length entries
  within step low = let a = length-take count (drop start entries) in let b = length-drop start entries in omega (arith, a, b, low)

  -- one more
  pub one_more : (items : List Entry) (step : ℕ) (entry : Entry) → step < length (take count (drop start entries)) → slice_get entries (start + step) ≡ Some entry
      → items ≡ take step (drop start entries) → items ++ entry ∷ [] ≡ take (step + 1) (drop start entries)
  one_more items step entry low is same =
      let few : step < length (drop start entries) = let a = length-take count (drop start entries) in omega (arith, a, low) in
      ap (λ z. z ++ entry ∷ []) same
      ∙ (ap (λ z. take step (drop start entries) ++ z ∷ []) (sym (get_or-drop start entries step entry ∙ got entries (start + step) entry is))
      ∙ sym (take_more (drop start entries) step entry few))

  -- all of them
  pub all_taken : (items : List Entry) (step : ℕ) → step ≡ length (take count (drop start entries)) → items ≡ take step (drop start entries) → items ≡ take count (drop start entries)
  all_taken items step all same = same ∙ (ap (λ z. take z (drop start entries)) all ∙ again (drop start entries) count) where
    again : (xs : List Entry) (n : ℕ) → take (length (take n xs)) xs ≡ take n xs
    again [] zero = refl
    again [] (suc n) = refl
    again (x ∷ xs) zero = refl
    again (x ∷ xs) (suc n) = ap (λ z. x ∷ z) (again xs n)
