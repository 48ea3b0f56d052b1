-- One event, one thread's cell and one action that gives it to the global cell.
use Rattle.std.proofs.Common.{◌≡◌, ℕ, suc, ◌+◌, ◌≤◌, ◌==◌, ◌&&◌, Bool, true, false, cond, List, [], ◌∷◌, Option, Some, None, count_by, refl, sym, ap, ◌∙◌, subst, arith}
use Rattle.std.specs.Prelude.{nat_lt}
use Rattle.std.proofs.lemmas.Bool.{eqb-true}
use Rattle.pfs_lemmas.proofs.Options.{none_some, some_same}
use Rattle.pfs_lemmas.proofs.Numbers.{eq_swap}
use Rattle.pfs_stat.specs.declared.Stat.{Stat}
use Rattle.pfs_stat.specs.declared.Measure.{Measure}
use Rattle.pfs_stat.specs.Stat.{Fits, zero_of, stat_of, merge_of, MergeIsMonoid}
use Rattle.pfs_conservation.specs.RowChains.{Change, Added, Taken, Given, found_in}
use Rattle.pfs_conservation.specs.Journeys.{times_counted, is_from, came}
use Rattle.pfs_conservation.specs.RowMoves.{goes_to, touches, moved, sends}
use Rattle.pfs_conservation.specs.Ways.{before_by, leave_by, IsPlaced}
use Rattle.pfs_conservation.specs.Conservation.{AddsOnce, Journals, AreKept, IsSummary, Shows, IsConserved}
use Rattle.pfs_conservation.specs.ConservedSums.{stats}
use Rattle.pfs_conservation.proofs.Conservation.{conserved_stats}

rows : (P : ℕ → Type 0) → P 1 → P 2 → ((row : ℕ) → (1 == row) ≡ false → (2 == row) ≡ false → P row) → (row : ℕ) → P row
rows P one two other row = at (1 == row) (2 == row) refl refl
  where
    at : (b c : Bool) → (1 == row) ≡ b → (2 == row) ≡ c → P row
    at true c p q = subst P (eqb-true 1 row p) one
    at false true p q = subst P (eqb-true 2 row q) two
    at false false p q = other row p q

pub differ : false ≡ true → ⊥
differ h = cc

only : (event : ℕ) → 1 ≤ count_by (λ e. event == e) (0 ∷ []) → event ≡ 0
only event h = at (event == 0) refl h
  where
    at : (b : Bool) → (event == 0) ≡ b → 1 ≤ 0 + cond b 1 0 → event ≡ 0
    at true q l = eqb-true event 0 q
    at false q l = absurd (omega arith)

pub one_sends : (action row : ℕ) → 1 ≡ action → cond (((1 == action) && true) && goes_to row (2 ∷ [])) 1 0 + 0 ≡ cond (is_from 1 (cond {A = Option ℕ} (2 == row) (Some 1) None)) 1 0
one_sends action row e = subst (λ a. cond (((1 == a) && true) && goes_to row (2 ∷ [])) 1 0 + 0 ≡ cond (is_from 1 (cond {A = Option ℕ} (2 == row) (Some 1) None)) 1 0) e (at (2 == row))
  where
    at : (b : Bool) → cond (true && (true && nat_lt 0 (0 + cond b 1 0))) 1 0 + 0 ≡ cond (is_from 1 (cond {A = Option ℕ} b (Some 1) None)) 1 0
    at true = refl
    at false = refl

abbrev chain : ℕ → List Change
chain row = cond (1 == row) (Added (0 ∷ []) ∷ (Taken 1 ∷ [])) (cond (2 == row) (Given 1 1 ∷ []) [])

module _ (m : MergeIsMonoid) (measures : ℕ → Measure) (fits : (event : ℕ) → Fits (stat_of (measures event))) where
  abbrev finds : ℕ → ℕ → Stat
  finds action row = cond (1 == row) (cond (1 == action) (merge_of zero_of (stat_of (measures 0))) zero_of) zero_of

  abbrev journals : Journals Stat
  journals = record {
    events = 0 ∷ [];
    chains = chain;
    moves = record { action = 1; from = 1; to = 2 ∷ [] } ∷ [];
    found = finds;
    level = λ row. cond (2 == row) 1 0;
    height = 1;
    home = λ event. 1;
    steps = λ event. record { from = 1; to = 2 } ∷ [];
  }

  placed : IsPlaced chain journals.level journals.moves 0 1 (record { from = 1; to = 2 } ∷ [])
  placed = record {
    counted = rows (λ row. times_counted 0 (chain row) ≡ cond (row == 1) 1 0) refl refl (λ row p q. rw (p, q) (ap (λ (b : Bool). cond {A = ℕ} b 1 0) (sym (eq_swap row 1 ∙ p))));
    leads = (refl, refl, tt, tt);
    climb = (omega arith, tt);
    placed = λ from action row went. rows
        (λ f. leave_by chain 0 1 (record { from = 1; to = 2 } ∷ []) f ≡ Some action → sends journals.moves action f row ≡ cond (is_from f (before_by (record { from = 1; to = 2 } ∷ []) row)) 1 0)
        (λ s. one_sends action row (some_same 1 action s)) (λ s. none_some action s)
        (λ r p q s. (let e : (r == 1) ≡ false = eq_swap r 1 ∙ p in none_some action (rw (q, e) at s))) from went;
  }

  kept : AreKept (stats measures) (λ (stat : Stat). stat.count) journals
  kept = record {
    few = omega arith;
    flat = rows (λ row. cond (2 == row) 1 0 ≤ 1) (omega arith) (omega arith) (λ row p q. rw q (omega arith));
    order = (λ row. rows (λ r. goes_to r (2 ∷ []) ≡ true → suc (cond (2 == 1) 1 0) ≤ cond (2 == r) 1 0) (λ h. absurd (differ h)) (λ h. omega arith) (λ r p q h. absurd (differ (rw q at h))) row, tt, tt);
    moved = record { is = rows (λ row. moved (chain row) ≡ touches (λ action r. nat_lt 0 (finds action r).count) row journals.moves) refl refl (λ row p q. rw (p, q) refl) };
    finds = record { is = λ action row. rows (λ r. finds action r ≡ found_in (stats measures) finds zero_of action (chain r)) refl refl (λ r p q. rw (p, q) refl) row };
    once = rows (λ row. AddsOnce (0 ∷ []) (chain row)) ((refl, tt), tt) tt (λ row p q. rw (p, q) tt);
    placed = λ event is. subst (λ e. IsPlaced chain journals.level journals.moves e 1 (record { from = 1; to = 2 } ∷ [])) (sym (only event is)) placed;
  }

  shown : IsSummary journals (2 ∷ []) [] (λ event. 2 ∷ []) (λ event. true)
  shown = record {
    shows = λ event is. subst (λ e. Shows chain journals.moves e 1 (record { from = 1; to = 2 } ∷ []) (2 ∷ []) [] (2 ∷ []) true) (sym (only event is)) (record {
      follows = (refl, refl, tt);
      nested = λ least q. tt;
      covered = λ lead least q. refl;
      once = rows (λ row. came 1 (before_by (record { from = 1; to = 2 } ∷ [])) (leave_by chain 0 1 (record { from = 1; to = 2 } ∷ [])) row ≡ 1 → leave_by chain 0 1 (record { from = 1; to = 2 } ∷ []) row ≡ None
          → count_by (λ r. r == row) (2 ∷ []) ≡ cond true (count_by (λ r. r == row) (1 ∷ (2 ∷ []))) 0)
          (λ c l. none_some 1 (sym l)) (λ c l. refl) (λ row p q c l. rw (p, q) refl);
    });
  }

  -- the global row shows the event
  pub global_shows : IsConserved (stats measures) journals (2 ∷ []) [] (λ event. true)
  global_shows = conserved_stats m measures fits journals kept (2 ∷ []) [] (λ event. 2 ∷ []) (λ event. true) shown

  pub global_is : merge_of zero_of (merge_of zero_of (merge_of zero_of (stat_of (measures 0)))) ≡ merge_of zero_of (stat_of (measures 0))
  global_is = global_shows
