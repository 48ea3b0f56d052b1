-- The opening, and views that are cut in two and put together.
use Rattle.std.proofs.Common.{◌≡◌, ℕ, subst, zero, suc, ◌+◌, ◌<◌, ◌≤◌, ◌≢◌, true, List, [], ◌∷◌, ◌++◌, length, get_or, set, sym, refl, ◌∙◌, ⊎_elim, arith, length-append}
use mathlib.Core.Option.{some}
use lib.ListN.{get_elem?}
use Rattle.atomic_table.specs.Table.{State, Splits, Joins, opening}
use Rattle.atomic_table.proofs.Lists.{set_else}
use Rattle.pfs_tickets.specs.declared.view.Drawn.{Drawn}
use Rattle.pfs_tickets.specs.declared.view.View.{View}
use Rattle.pfs_tickets.specs.History.{Each, total, count_of, times}
use Rattle.pfs_tickets.specs.Knowledge.{stake, root, split_left, split_right, joined, spent}
use Rattle.pfs_tickets.specs.Rule.{Fits, Ruled}
use Rattle.pfs_tickets.proofs.RuleSteps.{Counted, Timed, fits_set, kind_same}
use Rattle.pfs_tickets.proofs.ListFacts.{at_end, each_append, total_set, total_append}
use Rattle.pfs_tickets.proofs.StepNumbers.{numbers_first, numbers_cut, numbers_glued, not_root, none_yet, only_is}
use Rattle.pfs_tickets.proofs.TicketFacts.{count_append, times_append, rising_append}

abbrev zeros : List ℕ
zeros = 0 ∷ 0 ∷ 0 ∷ 0 ∷ []

zero_at : (k : ℕ) → get_or zeros k 0 ≡ 0
zero_at zero = refl
zero_at (suc zero) = refl
zero_at (suc (suc zero)) = refl
zero_at (suc (suc (suc zero))) = refl
zero_at (suc (suc (suc (suc k)))) = refl

bare : (ws : List ℕ) (v : View) → v.tickets ≡ [] → Fits ws v
bare ws v none = record {
  kinds = subst (Each (λ (x : Drawn). x.kind < 4)) (sym none) tt;
  below = subst (Each (λ (x : Drawn). x.ticket < get_or ws x.kind 0)) (sym none) tt;
  rising = subst Rattle.pfs_tickets.specs.History.IsRising (sym none) tt;
  own = λ _. subst (Each (λ (x : Drawn). x.by ≡ v.number)) (sym none) tt;
}

fits_joined : (ws : List ℕ) (v w : View) → v.number ≡ 0 → w.number ≢ 0 → Each (λ (x : Drawn). x.by ≢ w.number) v.tickets → Fits ws v → Fits ws w → Fits ws (joined v w)
fits_joined ws v w first apart none f g = record {
  kinds = each_append (λ (x : Drawn). x.kind < 4) w.tickets v.tickets g.kinds f.kinds;
  below = each_append (λ (x : Drawn). x.ticket < get_or ws x.kind 0) w.tickets v.tickets g.below f.below;
  rising = rising_append w.number w.tickets v.tickets g.rising f.rising (g.own apart) none;
  own = λ n. absurd (n first);
}

module _ (S : Type 0) where
  abbrev St : Type 0
  St = State S View

  abbrev Rule : St → Type 0
  Rule = Ruled {S = S}

  pub opens : Rule (opening zeros [] root)
  opens = record {
    wide = refl;
    kinds = λ k low. let z = zero_at k in record { counts = sym z; once = λ t h. absurd (omega arith); never = λ t h. refl };
    paid = refl;
    seats = λ j u there. subst (Fits zeros) (only_is root j u there) (bare zeros root refl);
    numbers = numbers_first;
  }

  -- a sum over the views after a split
  cut_sum : (f : View → ℕ) (views : List View) (id : ℕ) (v L R : View) → get_elem? views id ≡ some v → f L + f R ≡ f v → total f (set views id L ++ R ∷ []) ≡ total f views
  cut_sum f views id v L R at e = let a = total_set f views id v L at in let b = total_append f (set views id L) (R ∷ []) in omega arith

  pub cuts : (id : ℕ) (v : View) → v.live ≡ true → v.number ≡ 0 → v.said ≤ v.draws → Splits Rule id v (split_left v) (split_right v)
  cuts id v live first enough s r at = let f = r.seats id v at in let L : View = split_left v in let R : View = split_right v in let views : List View = set s.views id L ++ R ∷ [] in record {
    wide = r.wide;
    kinds = λ k low. kind_same s.words s.views views k (cut_sum (Counted k) s.views id v L R at (omega arith)) (λ t. cut_sum (Timed k t) s.views id v L R at (omega arith)) (r.kinds k low);
    paid = cut_sum stake s.views id v L R at (omega arith) ∙ r.paid;
    seats = λ j u there. ⊎_elim (λ e. fits_set s.words s.views id L record { kinds = f.kinds; below = f.below; rising = f.rising; own = f.own } r.seats j u e)
        (λ (e : (j ≡ length (set s.views id L)) × (R ≡ u)). subst (Fits s.words) e.1 (bare s.words R refl)) (at_end (set s.views id L) R u j there);
    numbers = numbers_cut s.views r.numbers id v at live first;
  }

  -- a sum over the views after a join
  glued_sum : (f : View → ℕ) (views : List View) (id other : ℕ) (v w B : View) → get_elem? views id ≡ some v → get_elem? (set views id B) other ≡ some w → f B ≡ f v + f w → f spent ≡ 0 → total f (set (set views id B) other spent) ≡ total f views
  glued_sum f views id other v w B at there e none = let a = total_set f views id v B at in let b = total_set f (set views id B) other w spent there in omega arith

  pub joins : (id : ℕ) (v : View) (other : ℕ) (w : View) → v.live ≡ true → v.number ≡ 0 → w.live ≡ true → Joins Rule id v other w (joined v w) spent
  joins id v other w live first w_live s r at apart there = let B : View = joined v w in let views : List View = set (set s.views id B) other spent in let w_at = sym (set_else s.views id other B apart) ∙ there in
      let f = r.seats id v at in let g = r.seats other w w_at in let not_first = not_root s.views r.numbers id v at live first other w w_at apart w_live in let none = none_yet s.views r.numbers id v at live first other w w_at apart w_live in record {
        wide = r.wide;
        kinds = λ k low. kind_same s.words s.views views k (glued_sum (Counted k) s.views id other v w B at there (let e = count_append k w.tickets v.tickets in omega arith) refl)
            (λ t. glued_sum (Timed k t) s.views id other v w B at there (let e = times_append k t w.tickets v.tickets in omega arith) refl) (r.kinds k low);
        paid = glued_sum stake s.views id other v w B at there (let e = length-append w.tickets v.tickets in omega arith) refl ∙ r.paid;
        seats = fits_set s.words (set s.views id B) other spent (bare s.words spent refl) (fits_set s.words s.views id B (fits_joined s.words v w first not_first none f g) r.seats);
        numbers = numbers_glued s.views r.numbers id v at live first other w w_at apart w_live (g.own not_first);
      }
