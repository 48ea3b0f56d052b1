-- The entries that change a row.
use Rattle.std.proofs.Common.{◌≡◌, refl, Bool, true, false, cond, List, [], ◌∷◌, ◌++◌, sym, ◌∙◌, ap, subst, ◌⊎◌, inl, inr}
use Rattle.pfs_model.specs.declared.changes.Change.{Change}
use Rattle.pfs_model.specs.Actions.{IsAmong}
use Rattle.pfs_model.specs.Chains.{each_of, row_change}
use Rattle.pfs_model.specs.EntryPlaces.{Placed}
use Rattle.pfs_check_contents.specs.PlacedChanges.{changing, is_changing, is_some_of}

pub changing_there : (places : List Placed) (place : Placed) → IsAmong place places → (row_change place.entry ≡ []) ⊎ IsAmong place (changing places)
changing_there [] place i = absurd i
changing_there (p ∷ ps) place (inl e) = subst (λ (z : Placed). (row_change z.entry ≡ []) ⊎ IsAmong z (changing (p ∷ ps))) e (on (row_change p.entry) refl) where
  on : (changes : List Change) → row_change p.entry ≡ changes → (row_change p.entry ≡ []) ⊎ IsAmong p (changing (p ∷ ps))
  on [] q = inl q
  on (change ∷ changes) q = inr (subst (λ z. IsAmong p (cond z (p ∷ []) [] ++ changing ps)) (sym (ap is_some_of q)) (inl refl))
changing_there (p ∷ ps) place (inr i) = on (changing_there ps place i) where
  back : (b : Bool) → IsAmong place (changing ps) → IsAmong place (cond b (p ∷ []) [] ++ changing ps)
  back true j = inr j
  back false j = j

  on : (row_change place.entry ≡ []) ⊎ IsAmong place (changing ps) → (row_change place.entry ≡ []) ⊎ IsAmong place (changing (p ∷ ps))
  on (inl q) = inl q
  on (inr j) = inr (back (is_changing p) j)

pub changing_own : (places : List Placed) (place : Placed) → IsAmong place (changing places) → IsAmong place places
changing_own [] place i = absurd i
changing_own (p ∷ ps) place i = on (is_changing p) i (changing_own ps place) where
  on : (b : Bool) → IsAmong place (cond b (p ∷ []) [] ++ changing ps) → (IsAmong place (changing ps) → IsAmong place ps) → IsAmong place (p ∷ ps)
  on true (inl e) rest = inl e
  on true (inr j) rest = inr (rest j)
  on false j rest = inr (rest j)

pub each_changing : (places : List Placed) → each_of row_change (changing places) ≡ each_of row_change places
each_changing [] = refl
each_changing (p ∷ ps) = at (row_change p.entry) refl (each_changing ps) where
  at : (changes : List Change) → row_change p.entry ≡ changes → each_of row_change (changing ps) ≡ each_of row_change ps
      → each_of row_change (cond (is_some_of changes) (p ∷ []) [] ++ changing ps) ≡ row_change p.entry ++ each_of row_change ps
  at [] q rest = rest ∙ sym (ap (λ z. z ++ each_of row_change ps) q)
  at (change ∷ changes) q rest = ap (λ z. row_change p.entry ++ z) rest
