-- That numbers differ, through the steps.
use Rattle.std.proofs.Common.{◌≡◌, ℕ, subst, zero, suc, ◌+◌, ◌≤◌, ◌≢◌, ◌⊎◌, true, List, [], ◌∷◌, ◌++◌, length, set, sym, refl, ap, ◌∙◌, inl, inr, ⊎_elim, arith}
use Rattle.pfs_lemmas.proofs.Bools.{true_not_false}
use mathlib.Core.Logic.{dite}
use mathlib.Core.Option.{some, some-injective, some-ne-none}
use native.Mathlib.Decide.{ℕ_discrete}
use lib.ListN.{get_elem?}
use Rattle.atomic_table.proofs.Lists.{at_set, set_here, set_else, at_longer}
use Rattle.pfs_tickets.specs.declared.view.Drawn.{Drawn}
use Rattle.pfs_tickets.specs.declared.view.View.{View}
use Rattle.pfs_tickets.specs.Knowledge.{split_left, split_right, joined, spent, root}
use Rattle.pfs_tickets.specs.Rule.{Makers, Numbers}
use Rattle.pfs_tickets.proofs.ListFacts.{each_map, each_append, at_below, at_end}

pub makers_map : (P Q : ℕ → Type 0) → ((n : ℕ) → P n → Q n) → (v : View) → Makers P v → Makers Q v
makers_map P Q f v m = each_map (λ (x : Drawn). P x.by) (λ (x : Drawn). Q x.by) (λ x p. f x.by p) v.tickets m

pub makers_joined : (P : ℕ → Type 0) (v w : View) → Makers P v → Makers P w → Makers P (joined v w)
makers_joined P v w a b = each_append (λ (x : Drawn). P x.by) w.tickets v.tickets b a

-- the seat at j had this number before
abbrev Was : List View → ℕ → View → Type 0
Was views j u = (x : View) × (get_elem? views j ≡ some x) × (x.live ≡ true) × (x.number ≡ u.number)

from_root : (views views' : List View) (n : Numbers views) (root' : View) → get_elem? views' 0 ≡ some root' → root'.live ≡ true → root'.number ≡ 0 → root'.seats ≡ n.root.seats → ((P : ℕ → Type 0) → P 0 → Makers P n.root → Makers P root')
    → ((j : ℕ) (u : View) → get_elem? views' j ≡ some u → u.live ≡ true → Was views j u) → Numbers views'
from_root views views' n root' at lives first seats more was = record {
  root = root';
  at_root = at;
  lives = lives;
  first = first;
  apart = λ i j u w a b p q e. let x = was i u a p in let y = was j w b q in n.apart i j x.0 y.0 x.1 y.1 x.2 y.2 (x.3 ∙ (e ∙ sym y.3));
  counted = λ j u a p. let x = was j u a p in let c = n.counted j x.0 x.1 x.2 in let e = x.3 in omega arith;
  strangers = λ j u a p z. let x = was j u a p in more (λ k. k ≢ u.number) (λ e. z (sym e)) (subst (λ i. Makers (λ k. k ≢ i) n.root) x.3 (n.strangers j x.0 x.1 x.2 (λ e. z (sym x.3 ∙ e))));
  makers = more (λ k. k ≤ root'.seats) (omega arith) (subst (λ i. Makers (λ k. k ≤ i) n.root) (sym seats) n.makers);
}

-- the view of a seat that has its number still, and no ticket of another's more
pub record Near (v w : View) : Type 1 where
  pub live_is : w.live ≡ v.live
  pub number_is : w.number ≡ v.number
  pub seats_are : w.seats ≡ v.seats
  pub makers_are : (P : ℕ → Type 0) → P v.number → Makers P v → Makers P w

pub numbers_set : (views : List View) (id : ℕ) (v w : View) → get_elem? views id ≡ some v → Near v w → Numbers views → Numbers (set views id w)
numbers_set views id v w at near n = let was : (j : ℕ) (u : View) → get_elem? (set views id w) j ≡ some u → u.live ≡ true → Was views j u = λ j u there p. ⊎_elim
    (λ (h : (j ≡ id) × (w ≡ u)). (v, ap (get_elem? views) h.0 ∙ at, sym near.live_is ∙ (ap (λ (x : View). x.live) h.1 ∙ p), sym near.number_is ∙ ap (λ (x : View). x.number) h.1))
    (λ (h : (j ≢ id) × (get_elem? views j ≡ some u)). (u, h.1, p, refl)) (at_set views id j w u there) in dite (ℕ_discrete 0 id)
    (λ e. let same : n.root ≡ v = some-injective _ _ (sym n.at_root ∙ (ap (get_elem? views) e ∙ at)) in let zero_is : v.number ≡ 0 = ap (λ (x : View). x.number) (sym same) ∙ n.first in
    from_root views (set views id w) n w (ap (get_elem? (set views id w)) e ∙ set_here views id w (at_below views id v at)) (near.live_is ∙ (ap (λ (x : View). x.live) (sym same) ∙ n.lives)) (near.number_is ∙ zero_is)
    (near.seats_are ∙ ap (λ (x : View). x.seats) (sym same)) (λ P z m. near.makers_are P (subst P (sym zero_is) z) (subst (Makers P) same m)) was)
    (λ ne. from_root views (set views id w) n n.root (set_else views id 0 w ne ∙ n.at_root) n.lives n.first refl (λ P _ m. m) was)

-- the root is at 0
pub root_same : (views : List View) (n : Numbers views) (id : ℕ) (v : View) → get_elem? views id ≡ some v → v.live ≡ true → v.number ≡ 0 → (id ≡ 0) × (n.root ≡ v)
root_same views n id v at lives first = let e = n.apart id 0 v n.root at n.at_root lives n.lives (first ∙ sym n.first) in (e, some-injective _ _ (sym n.at_root ∙ (ap (get_elem? views) (sym e) ∙ at)))

module _ (views : List View) (n : Numbers views) (id : ℕ) (v : View) (at : get_elem? views id ≡ some v) (lives : v.live ≡ true) (first : v.number ≡ 0) where
  abbrev L : View
  L = split_left v

  abbrev R : View
  R = split_right v

  abbrev cut : List View
  cut = set views id L ++ R ∷ []

  -- an old seat, or the new one
  cut_was : (j : ℕ) (u : View) → get_elem? cut j ≡ some u → u.live ≡ true → Was views j u ⊎ ((j ≡ length (set views id L)) × (R ≡ u))
  cut_was j u there p = ⊎_elim (λ e. inl (⊎_elim (λ (h : (j ≡ id) × (L ≡ u)). (v, ap (get_elem? views) h.0 ∙ at, lives, ap (λ (x : View). x.number) h.1)) (λ (h : (j ≢ id) × (get_elem? views j ≡ some u)). (u, h.1, p, refl)) (at_set views id j L u e))) (λ e. inr e) (at_end (set views id L) R u j there)

  old_low : (j : ℕ) (u : View) → Was views j u → u.number ≤ v.seats
  old_low j u x = let c = n.counted j x.0 x.1 x.2 in let e = x.3 in let same = ap (λ (y : View). y.seats) (root_same views n id v at lives first).1 in omega arith

  pub numbers_cut : Numbers cut
  numbers_cut = let r = root_same views n id v at lives first in let low : Makers (λ k. k ≤ v.seats) v = subst (λ (y : View). Makers (λ k. k ≤ y.seats) y) r.1 n.makers in record {
    root = L;
    at_root = at_longer (set views id L) (R ∷ []) 0 L (ap (get_elem? (set views id L)) (sym r.0) ∙ set_here views id L (at_below views id v at));
    lives = lives;
    first = first;
    apart = λ i j u w a b p q e. ⊎_elim
        (λ (x : Was views i u). ⊎_elim (λ (y : Was views j w). n.apart i j x.0 y.0 x.1 y.1 x.2 y.2 (x.3 ∙ (e ∙ sym y.3)))
        (λ (y : (j ≡ length (set views id L)) × (R ≡ w)). let l = old_low i u x in let g = ap (λ (z : View). z.number) y.1 in absurd (omega arith)) (cut_was j w b q))
        (λ (x : (i ≡ length (set views id L)) × (R ≡ u)). ⊎_elim (λ (y : Was views j w). let l = old_low j w y in let g = ap (λ (z : View). z.number) x.1 in absurd (omega arith))
        (λ (y : (j ≡ length (set views id L)) × (R ≡ w)). x.0 ∙ sym y.0) (cut_was j w b q)) (cut_was i u a p);
    counted = λ j u a p. ⊎_elim (λ (x : Was views j u). let l = old_low j u x in omega arith) (λ (x : (j ≡ length (set views id L)) × (R ≡ u)). let g = ap (λ (z : View). z.number) x.1 in omega arith) (cut_was j u a p);
    strangers = λ j u a p z. ⊎_elim (λ (x : Was views j u). subst (λ (y : View). Makers (λ k. k ≢ u.number) y) r.1 (subst (λ i. Makers (λ k. k ≢ i) n.root) x.3 (n.strangers j x.0 x.1 x.2 (λ e. z (sym x.3 ∙ e)))))
        (λ (x : (j ≡ length (set views id L)) × (R ≡ u)). let g = ap (λ (y : View). y.number) x.1 in makers_map (λ k. k ≤ v.seats) (λ k. k ≢ u.number) (λ k h e. omega arith) v low) (cut_was j u a p);
    makers = makers_map (λ k. k ≤ v.seats) (λ k. k ≤ v.seats + 1) (λ k h. omega arith) v low;
  }

  module _ (other : ℕ) (w : View) (w_at : get_elem? views other ≡ some w) (differ : ¬ (other ≡ id)) (w_lives : w.live ≡ true) where
    abbrev B : View
    B = joined v w

    -- the other isn't the root
    pub not_root : w.number ≢ 0
    not_root e = differ (n.apart other id w v w_at at w_lives lives (e ∙ sym first))

    -- and the root has none of its tickets yet
    pub none_yet : Makers (λ k. k ≢ w.number) v
    none_yet = subst (Makers (λ k. k ≢ w.number)) (root_same views n id v at lives first).1 (n.strangers other w w_at w_lives not_root)

    abbrev glued : List View
    glued = set (set views id B) other spent

    glued_was : (j : ℕ) (u : View) → get_elem? glued j ≡ some u → u.live ≡ true → (j ≢ other) × Was views j u
    glued_was j u there p = ⊎_elim (λ (h : (j ≡ other) × (spent ≡ u)). absurd (true_not_false u.live p (ap (λ (x : View). x.live) (sym h.1))))
        (λ (h : (j ≢ other) × (get_elem? (set views id B) j ≡ some u)). (h.0, ⊎_elim (λ (g : (j ≡ id) × (B ≡ u)). (v, ap (get_elem? views) g.0 ∙ at, lives, ap (λ (x : View). x.number) g.1)) (λ (g : (j ≢ id) × (get_elem? views j ≡ some u)). (u, g.1, p, refl)) (at_set views id j B u h.1)))
        (at_set (set views id B) other j spent u there)

    pub numbers_glued : Makers (λ k. k ≡ w.number) w → Numbers glued
    numbers_glued own = let r = root_same views n id v at lives first in let low : Makers (λ k. k ≤ v.seats) v = subst (λ (y : View). Makers (λ k. k ≤ y.seats) y) r.1 n.makers in let seats_same = ap (λ (y : View). y.seats) r.1 in let w_low = n.counted other w w_at w_lives in record {
      root = B;
      at_root = set_else (set views id B) other 0 spent (λ e. differ (sym e ∙ sym r.0)) ∙ (ap (get_elem? (set views id B)) (sym r.0) ∙ set_here views id B (at_below views id v at));
      lives = lives;
      first = first;
      apart = λ i j u y a b p q e. let x = (glued_was i u a p).1 in let z = (glued_was j y b q).1 in n.apart i j x.0 z.0 x.1 z.1 x.2 z.2 (x.3 ∙ (e ∙ sym z.3));
      counted = λ j u a p. let x = (glued_was j u a p).1 in let c = n.counted j x.0 x.1 x.2 in let e = x.3 in omega arith;
      strangers = λ j u a p z. let g = glued_was j u a p in let x = g.1 in makers_joined (λ k. k ≢ u.number) v w
          (subst (λ (y : View). Makers (λ k. k ≢ u.number) y) r.1 (subst (λ i. Makers (λ k. k ≢ i) n.root) x.3 (n.strangers j x.0 x.1 x.2 (λ e. z (sym x.3 ∙ e)))))
          (makers_map (λ k. k ≡ w.number) (λ k. k ≢ u.number) (λ k h e. g.0 (n.apart j other x.0 w x.1 w_at x.2 w_lives (x.3 ∙ (sym e ∙ h)))) w own);
      makers = makers_joined (λ k. k ≤ v.seats) v w low (makers_map (λ k. k ≡ w.number) (λ k. k ≤ v.seats) (λ k h. omega arith) w own);
    }

-- the only view of a new table
only_zero : (v : View) (j : ℕ) (u : View) → get_elem? (v ∷ []) j ≡ some u → j ≡ 0
only_zero v zero u e = refl
only_zero v (suc j) u e = absurd (some-ne-none u (sym e))

pub only_is : (v : View) (j : ℕ) (u : View) → get_elem? (v ∷ []) j ≡ some u → v ≡ u
only_is v zero u e = some-injective _ _ e
only_is v (suc j) u e = absurd (some-ne-none u (sym e))

pub numbers_first : Numbers (root ∷ [])
numbers_first = record {
  root = root;
  at_root = refl;
  lives = refl;
  first = refl;
  apart = λ i j u w a b _ _ _. only_zero root i u a ∙ sym (only_zero root j w b);
  counted = λ j u a _. let z = ap (λ (x : View). x.number) (only_is root j u a) in omega arith;
  strangers = λ j u a _ _. tt;
  makers = tt;
}
