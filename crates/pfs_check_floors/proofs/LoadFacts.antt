-- The switch words that lines name.
use Rattle.std.proofs.Common.{◌≡◌, ℕ, ◌≤◌, Bool, true, false, ◌&&◌, List, [], ◌∷◌, ◌++◌, sym, ◌∙◌, ap, subst}
use Rattle.pfs_model.specs.declared.changes.Change.{Change}
use Rattle.pfs_model.specs.Chains.{change_at, word_change}
use Rattle.pfs_model.specs.EntryPlaces.{Placed}
use Rattle.pfs_model.specs.Floors.{LoadsKeep, word_floor_of}
use Rattle.pfs_check_floors.specs.KnownFloors.{Tells, had_by}

keep_join : (all earlier : List Placed) (place : Placed) (xs ys : List Change) → LoadsKeep all earlier place xs → LoadsKeep all earlier place ys
    → LoadsKeep all earlier place (xs ++ ys)
keep_join all earlier place [] ys a b = b
keep_join all earlier place (x ∷ xs) ys a b = (a.0, a.1, keep_join all earlier place xs ys a.2 b)

keep_parts : (all earlier : List Placed) (place : Placed) (xs ys : List Change) → LoadsKeep all earlier place (xs ++ ys)
    → LoadsKeep all earlier place xs × LoadsKeep all earlier place ys
keep_parts all earlier place [] ys k = (tt, k)
keep_parts all earlier place (x ∷ xs) ys k =
    let rest : LoadsKeep all earlier place xs × LoadsKeep all earlier place ys = keep_parts all earlier place xs ys k.2 in
    ((k.0, k.1, rest.0), rest.1)

pub keep_both : (all earlier : List Placed) (place : Placed) (xs ys : List Change) (a b c : Bool) → Tells (LoadsKeep all earlier place xs) a
    → Tells (LoadsKeep all earlier place ys) b → c ≡ (a && b) → Tells (LoadsKeep all earlier place (xs ++ ys)) c
keep_both all earlier place xs ys a b c t u e = subst (Tells (LoadsKeep all earlier place (xs ++ ys))) (sym e) (on a b t u) where
  on : (a b : Bool) → Tells (LoadsKeep all earlier place xs) a → Tells (LoadsKeep all earlier place ys) b
      → Tells (LoadsKeep all earlier place (xs ++ ys)) (a && b)
  on true true t u = keep_join all earlier place xs ys t u
  on true false t u = λ k. u (keep_parts all earlier place xs ys k).1
  on false b t u = λ k. t (keep_parts all earlier place xs ys k).0

pub load_tells : (all earlier : List Placed) (place : Placed) (word version : ℕ) (a : Bool)
    → Tells ((word_floor_of all earlier place word ≤ version) × (version ≤ had_by word_change all place.phase word)) a
    → Tells (LoadsKeep all earlier place (change_at word version ∷ [])) a
load_tells all earlier place word version true t = (t.0, t.1, tt)
load_tells all earlier place word version false t = λ k. t (k.0, k.1)

pub four_loads : (a b c d w x y z : List Change) → a ≡ w → b ≡ x → c ≡ y → d ≡ z → a ++ (b ++ (c ++ d)) ≡ w ++ (x ++ (y ++ z))
four_loads a b c d w x y z p q r s =
    ap (λ k. k ++ (b ++ (c ++ d))) p ∙ ap (λ k. w ++ (k ++ (c ++ d))) q ∙ ap (λ k. w ++ (x ++ (k ++ d))) r ∙ ap (λ k. w ++ (x ++ (y ++ k))) s
