-- Two sessions with one event each; an action gives the first one's cell to the global cell.
-- Rows: 1 and 3 the threads' cells, 2 the global cell.
use Rattle.std.proofs.Common.{◌≡◌, ℕ, suc, ◌+◌, ◌≤◌, ◌==◌, ◌&&◌, Bool, true, false, cond, List, [], ◌∷◌, Some, None, count_by, refl, sym, ap, ◌∙◌, subst, arith}
use Rattle.std.specs.Prelude.{nat_lt}
use Rattle.std.proofs.lemmas.Bool.{eqb-true}
use Rattle.pfs_lemmas.proofs.Options.{none_some, some_same}
use Rattle.pfs_lemmas.proofs.Numbers.{eq_swap}
use Rattle.pfs_stat.specs.declared.Stat.{Stat}
use Rattle.pfs_stat.specs.declared.Measure.{Measure}
use Rattle.pfs_stat.specs.Stat.{Fits, zero_of, stat_of, merge_of, MergeIsMonoid}
use Rattle.pfs_conservation.specs.RowChains.{Change, Added, Taken, Given, found_in}
use Rattle.pfs_conservation.specs.Journeys.{times_counted, is_from, came}
use Rattle.pfs_conservation.specs.RowMoves.{goes_to, touches, moved, sends}
use Rattle.pfs_conservation.specs.Ways.{Step, before_by, leave_by, IsPlaced}
use Rattle.pfs_conservation.specs.Conservation.{AddsOnce, Journals, AreKept, IsSummary, Shows, IsConserved}
use Rattle.pfs_conservation.specs.ConservedSums.{stats}
use Rattle.pfs_conservation.proofs.Conservation.{conserved_stats}
use Rattle.pfs_conservation.proofs.OneEvent.{differ, one_sends}

rows : (P : ℕ → Type 0) → P 1 → P 2 → P 3 → ((row : ℕ) → (1 == row) ≡ false → (2 == row) ≡ false → (3 == row) ≡ false → P row) → (row : ℕ) → P row
rows P one two three other row = at (1 == row) (2 == row) (3 == row) refl refl refl
  where
    at : (b c d : Bool) → (1 == row) ≡ b → (2 == row) ≡ c → (3 == row) ≡ d → P row
    at true c d p q r = subst P (eqb-true 1 row p) one
    at false true d p q r = subst P (eqb-true 2 row q) two
    at false false true p q r = subst P (eqb-true 3 row r) three
    at false false false p q r = other row p q r

no : ◌≡◌ {A = ℕ} 0 1 → ⊥
no h = omega arith

abbrev chain : ℕ → List Change
chain row = cond (1 == row) (Added (0 ∷ []) ∷ (Taken 1 ∷ [])) (cond (2 == row) (Given 1 1 ∷ []) (cond (3 == row) (Added (1 ∷ []) ∷ []) []))

abbrev first_steps : List Step
first_steps = record { from = 1; to = 2 } ∷ []

abbrev second_steps : List Step
second_steps = record { from = 3; to = 2 } ∷ []

abbrev home_of : ℕ → ℕ
home_of event = cond (0 == event) 1 3

abbrev steps_of_event : ℕ → List Step
steps_of_event event = cond (0 == event) first_steps second_steps

-- the two events
events : (P : ℕ → Type 0) → P 0 → P 1 → (event : ℕ) → 1 ≤ count_by (λ e. event == e) (0 ∷ (1 ∷ [])) → P event
events P zero_is one_is event h = at (event == 0) (event == 1) refl refl h
  where
    at : (b c : Bool) → (event == 0) ≡ b → (event == 1) ≡ c → 1 ≤ (0 + cond b 1 0) + cond c 1 0 → P event
    at true c p q l = subst P (sym (eqb-true event 0 p)) zero_is
    at false true p q l = subst P (sym (eqb-true event 1 q)) one_is
    at false false p q l = absurd (omega arith)

module _ (m : MergeIsMonoid) (measures : ℕ → Measure) (fits : (event : ℕ) → Fits (stat_of (measures event))) where
  abbrev finds : ℕ → ℕ → Stat
  finds action row = cond (1 == row) (cond (1 == action) (merge_of zero_of (stat_of (measures 0))) zero_of) zero_of

  abbrev journals : Journals Stat
  journals = record {
    events = 0 ∷ (1 ∷ []);
    chains = chain;
    moves = record { action = 1; from = 1; to = 2 ∷ [] } ∷ [];
    found = finds;
    level = λ row. cond (2 == row) 3 0;
    height = 3;
    home = home_of;
    steps = steps_of_event;
  }

  first_placed : IsPlaced chain journals.level journals.moves 0 1 first_steps
  first_placed = record {
    counted = rows (λ row. times_counted 0 (chain row) ≡ cond (row == 1) 1 0) refl refl refl (λ row p q r. rw (p, q, r) (ap (λ (b : Bool). cond {A = ℕ} b 1 0) (sym (eq_swap row 1 ∙ p))));
    leads = (refl, refl, tt, tt);
    climb = (omega arith, tt);
    placed = λ from action row went. rows
        (λ f. leave_by chain 0 1 first_steps f ≡ Some action → sends journals.moves action f row ≡ cond (is_from f (before_by first_steps row)) 1 0)
        (λ s. one_sends action row (some_same 1 action s)) (λ s. none_some action s) (λ s. none_some action s)
        (λ r p q k s. (let e : (r == 1) ≡ false = eq_swap r 1 ∙ p in none_some action (rw (q, e) at s))) from went;
  }

  second_placed : IsPlaced chain journals.level journals.moves 1 3 second_steps
  second_placed = record {
    counted = rows (λ row. times_counted 1 (chain row) ≡ cond (row == 3) 1 0) refl refl refl (λ row p q r. rw (p, q, r) (ap (λ (b : Bool). cond {A = ℕ} b 1 0) (sym (eq_swap row 3 ∙ r))));
    leads = (refl, refl, tt, tt);
    climb = (omega arith, tt);
    placed = λ from action row went. rows
        (λ f. leave_by chain 1 3 second_steps f ≡ Some action → sends journals.moves action f row ≡ cond (is_from f (before_by second_steps row)) 1 0)
        (λ s. none_some action s) (λ s. none_some action s) (λ s. none_some action s)
        (λ r p q k s. (let e : (r == 3) ≡ false = eq_swap r 3 ∙ k in none_some action (rw (q, e) at s))) from went;
  }

  kept : AreKept (stats measures) (λ (stat : Stat). stat.count) journals
  kept = record {
    few = omega arith;
    flat = rows (λ row. cond (2 == row) 3 0 ≤ 3) (omega arith) (omega arith) (omega arith) (λ row p q r. rw q (omega arith));
    order = (λ row. rows (λ r. goes_to r (2 ∷ []) ≡ true → suc (cond (2 == 1) 3 0) ≤ cond (2 == r) 3 0) (λ h. absurd (differ h)) (λ h. omega arith) (λ h. absurd (differ h)) (λ r p q k h. absurd (differ (rw q at h))) row, tt, tt);
    moved = record { is = rows (λ row. moved (chain row) ≡ touches (λ action r. nat_lt 0 (finds action r).count) row journals.moves) refl refl refl (λ row p q r. rw (p, q, r) refl) };
    finds = record { is = λ action row. rows (λ r. finds action r ≡ found_in (stats measures) finds zero_of action (chain r)) refl refl refl (λ r p q k. rw (p, q, k) refl) row };
    once = rows (λ row. AddsOnce (0 ∷ (1 ∷ [])) (chain row)) ((refl, tt), tt) tt ((refl, tt), tt) (λ row p q r. rw (p, q, r) tt);
    placed = events (λ e. IsPlaced chain journals.level journals.moves e (home_of e) (steps_of_event e)) first_placed second_placed;
  }

  -- by thread, for the first session: its cell was taken, and the second session's event doesn't lead there
  by_thread : IsSummary journals (1 ∷ []) (1 ∷ []) (λ event. []) (λ event. 0 == event)
  by_thread = record {
    shows = events (λ e. Shows chain journals.moves e (home_of e) (steps_of_event e) (1 ∷ []) (1 ∷ []) [] (0 == e))
        (record {
          follows = tt;
          nested = λ least q. tt;
          covered = λ lead least q. (let is : 1 ≡ least = some_same 1 least q in subst (λ n. (nat_lt 1 n && true) ≡ false) is refl);
          once = rows (λ row. came 1 (before_by first_steps) (leave_by chain 0 1 first_steps) row ≡ 1 → leave_by chain 0 1 first_steps row ≡ None → count_by (λ r. r == row) (1 ∷ []) ≡ cond true (count_by (λ r. r == row) (1 ∷ [])) 0)
              (λ c l. refl) (λ c l. refl) (λ c l. refl) (λ row p q r c l. refl);
        })
        (record {
          follows = tt;
          nested = λ least q. tt;
          covered = λ lead least q. absurd (differ lead);
          once = rows (λ row. came 3 (before_by second_steps) (leave_by chain 1 3 second_steps) row ≡ 1 → leave_by chain 1 3 second_steps row ≡ None → count_by (λ r. r == row) (1 ∷ []) ≡ cond false (count_by (λ r. r == row) (3 ∷ [])) 0)
              (λ c l. absurd (no c)) (λ c l. refl) (λ c l. refl) (λ row p q r c l. rw p refl);
        });
  }

  pub thread_shows : IsConserved (stats measures) journals (1 ∷ []) (1 ∷ []) (λ event. 0 == event)
  thread_shows = conserved_stats m measures fits journals kept (1 ∷ []) (1 ∷ []) (λ event. []) (λ event. 0 == event) by_thread
