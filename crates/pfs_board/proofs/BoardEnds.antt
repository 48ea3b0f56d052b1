-- The opening, and what is known at the end.
use Rattle.std.proofs.Common.{◌≡◌, ℕ, subst, zero, suc, ◌+◌, ◌*◌, ◌/◌, ◌%◌, ◌<◌, ◌≤◌, ◌≢◌, true, false, List, [], ◌∷◌, length, get_or, replicate, sym, refl, ap, ◌∙◌, inl, ⊎_elim, arith, eq-eqb, ne_eqb}
use Rattle.std.specs.Prelude.{Option, Some}
use Rattle.std.proofs.lemmas.Bool.{cases_Bool}
use Rattle.pfs_lemmas.proofs.Bools.{true_not_false}
use mathlib.Core.Logic.{dite}
use mathlib.Core.Option.{some, some-injective, some-ne-none}
use native.Mathlib.Decide.{ℕ_discrete}
use lib.ListN.{get_elem?}
use Rattle.atomic_table.specs.Table.{State, opening, Final, Seen}
use Rattle.pfs_board.specs.declared.view.Change.{Change}
use Rattle.pfs_board.specs.declared.view.Corner.{Corner}
use Rattle.pfs_board.specs.declared.view.Label.{Label}
use Rattle.pfs_board.specs.declared.view.View.{View}
use Rattle.pfs_board.specs.History.{total, Each, lock_at, version, labels_of, oldest, shows_to, Floor}
use Rattle.pfs_board.specs.Knowledge.{newcomer, corner, is_holding, IsWhole, root, spent}
use Rattle.pfs_board.specs.Rule.{Moment, moment, lock, now, Fits, IsRow, Joint, Ruled}
use Rattle.pfs_board.specs.OpeningWords.{IsOpening}
use Rattle.pfs_board.specs.WholeSeats.{IsFinalRow, History}
use Rattle.pfs_board.proofs.HistoryFacts.{each_both, length_labels, actions_below, rises, afters_below, above_actions}
use Rattle.pfs_board.proofs.ViewFacts.{corner_new, held_new}
use Rattle.pfs_board.proofs.RuleSteps.{whole_is_one}
use Rattle.pfs_board.proofs.Looks.{here}

length_new : (n : ℕ) → length (replicate n newcomer) ≡ n
length_new zero = refl
length_new (suc n) = let e = length_new n in omega arith

module _ {K : Type 0} (means : K → List Label → Type 0) (start : List ℕ) where
  first_fits : (n : ℕ) → length start ≡ 17 * n → Fits start (record { words = start; log = []; had = []; holder = λ r. 0 }) 0 (root start)
  first_fits n long = let rows : ℕ = length start / 17 in let e = length_new rows in let h = held_new rows in record {
    number_is = refl;
    start_is = refl;
    wide = omega arith;
    some_left = omega arith;
    enough = omega arith;
    corners = λ q. let P : Corner → Type 0 = λ c. Rattle.pfs_board.specs.Rule.FitsRow start (record { words = start; log = []; had = []; holder = λ r. 0 }) 0 q 0 0 (IsWhole (root start)) c in subst P (sym (corner_new rows q)) record {
      knows = tt;
      seen = omega arith;
      last = tt;
      tied = λ k xs is. cc;
      known = λ n fresh is. cc;
      alone = λ whole n fresh is. cc;
    };
    inside = inl (refl, ap (λ (c : Corner). is_holding c.stage) (corner_new rows 0), λ out. cc);
    ended = omega arith;
    split_at = omega arith;
    reads = tt;
    sights = tt;
    entered = tt;
  }

  first_row : (n : ℕ) → IsOpening start n → (q : ℕ) → lock_at q < length start → IsRow start (record { words = start; log = []; had = []; holder = λ r. 0 }) (root start ∷ []) q
  first_row n o q inside = let long = o.long in let two = o.locks q (omega arith) in record {
    counts = ⊎_elim (λ z. omega arith) (λ z. omega arith) two;
    state = ⊎_elim (λ z. omega arith) (λ z. omega arith) two;
    clean = λ _ i h. refl;
    free = λ a. ⊎_elim (λ z. eq-eqb (get_or start (lock_at q) 0) 0 z) (λ z. absurd (omega arith)) two;
    allocated = λ a. ⊎_elim (λ z. absurd (omega arith)) (λ z. ne_eqb (get_or start (lock_at q) 0) 0 (λ e. omega arith)) two;
    dirty = λ a. absurd (⊎_elim (λ z. omega arith) (λ z. omega arith) two);
  }

  only_live : (j : ℕ) (v : View) → get_elem? (root start ∷ []) j ≡ some v → v.live ≡ false → v ≡ spent
  only_live zero v e dead = absurd (true_not_false v.live (sym (ap (λ (u : View). u.live) (some-injective _ _ e))) dead)
  only_live (suc j) v e dead = absurd (some-ne-none v (sym e))

  none_lent : (j : ℕ) (v : View) → get_elem? (root start ∷ []) j ≡ some v → v.lent ≡ true → {A : Type 0} → A
  none_lent zero v e lent = absurd (true_not_false v.lent lent (sym (ap (λ (u : View). u.lent) (some-injective _ _ e))))
  none_lent (suc j) v e lent = absurd (some-ne-none v (sym e))

  only_fits : (n : ℕ) → length start ≡ 17 * n → (j : ℕ) (v : View) → get_elem? (root start ∷ []) j ≡ some v → v.live ≡ true → Fits start (record { words = start; log = []; had = []; holder = λ r. 0 }) j v
  only_fits n long zero v e live = subst (Fits start (record { words = start; log = []; had = []; holder = λ r. 0 }) 0) (some-injective _ _ e) (first_fits n long)
  only_fits n long (suc j) v e live = absurd (some-ne-none v (sym e))

  pub opens : (n : ℕ) (x : K) → IsOpening start n → means x [] → Ruled means start (opening start (Some x ∷ []) (root start))
  opens n x o m = record {
    log = [];
    had = [];
    holder = λ r. 0;
    joint = record {
      wide = refl;
      chain = tt;
      counted = λ h. refl;
      allowed = refl;
      makers = tt;
      floors = tt;
      current = tt;
      root_is = (root start, refl, record { here = refl; seats = refl; made = refl }, λ _ _. (x, refl, m));
      empty = λ j v e lent _. none_lent j v e lent;
      spent_is = only_live;
    };
    seats = only_fits n o.long;
    rows = first_row n o;
  }

  no_more : (f : View → ℕ) (views : List View) → ((j : ℕ) (u : View) → get_elem? views j ≡ some u → f u ≡ 0) → total f views ≡ 0
  no_more f [] none_here = refl
  no_more f (x ∷ xs) none_here = let e = none_here 0 x refl in let r = no_more f xs (λ j u a. none_here (suc j) u a) in omega arith

  only_one : (f : View → ℕ) (views : List View) (id : ℕ) (v : View) → get_elem? views id ≡ some v → ((j : ℕ) (u : View) → j ≢ id → get_elem? views j ≡ some u → f u ≡ 0) → total f views ≡ f v
  only_one f [] id v at none_else = absurd (some-ne-none v (sym at))
  only_one f (x ∷ xs) zero v at none_else = let e = ap f (some-injective x v at) in let z = no_more f xs (λ j u a. none_else (suc j) u (λ h. omega arith) a) in omega arith
  only_one f (x ∷ xs) (suc id) v at none_else = let e = none_else 0 x (λ h. omega arith) refl in let r = only_one f xs id v at (λ j u n a. none_else (suc j) u (λ h. n (omega arith)) a) in omega arith

  silent : (s : State (Option K) View) (r : Ruled means start s) (id : ℕ) (v : View) → get_elem? s.views id ≡ some v → v.live ≡ true → IsWhole v → (h : Change → ℕ) (j : ℕ) (u : View) → j ≢ id → get_elem? s.views j ≡ some u → total h u.made ≡ 0
  silent s r id v at live whole h j u n there = ⊎_elim (λ u_live. absurd (n (sym (whole_is_one means start (here means start s r) s.homes s.views r.joint j id u v there (r.seats j u there u_live).some_left at whole))))
      (λ dead. ap (λ (x : View). total h x.made) (r.joint.spent_is j u there dead)) (cases_Bool u.live)

  module _ (s : State (Option K) View) (r : Ruled means start s) (id : ℕ) (v : View) (at : get_elem? s.views id ≡ some v) (live : v.live ≡ true) (whole : IsWhole v) where
    abbrev t : Moment
    t = here means start s r

    -- the seat with the whole sum has all changes
    pub all_made : (h : Change → ℕ) → total h v.made ≡ total h r.log
    all_made h = sym (only_one (λ (u : View). total h u.made) s.views id v at (λ j u n a. silent s r id v at live whole h j u n a)) ∙ r.joint.counted h

    pub root_is : (u : View) → get_elem? s.views 0 ≡ some u → u ≡ v
    root_is u there = let o = r.joint.root_is in let first = whole_is_one means start t s.homes s.views r.joint 0 id o.0 v o.1 (r.seats 0 o.0 o.1 o.2.here).some_left at whole in some-injective _ _ (sym there ∙ (ap (get_elem? s.views) (sym first) ∙ at))

    -- no row is dirty but in its hand
    final_row : (q : ℕ) → lock_at q < length start → IsFinalRow start t v q
    final_row q inside = let g = r.rows q inside in record {
      counts = g.counts;
      state = g.state;
      content = g.clean;
      free = g.free;
      allocated = g.allocated;
      held_by = λ z. let d = g.dirty z in let e = whole_is_one means start t s.homes s.views r.joint (r.holder q) id d.0 v d.1 (r.seats (r.holder q) d.0 d.1 d.2).some_left at whole in
          let same : d.0 ≡ v = some-injective _ _ (sym d.1 ∙ (ap (get_elem? s.views) (sym e) ∙ at)) in subst (λ (x : View). is_holding (corner x q).stage ≡ true) same d.3;
    }

    module _ (outside : is_holding (corner v 0).stage ≡ false) (some_row : 0 < length start) where
      not_dirty : lock t 0 % 4 ≡ 1 → ⊥
      not_dirty dirty = true_not_false (is_holding (corner v 0).stage) ((final_row 0 some_row).held_by dirty) outside

      pub value_home : v.lent ≡ false → (x : K) × (get_elem? s.homes 0 ≡ some (some (Some x))) × means x (labels_of r.log)
      value_home home = let o = r.joint.root_is in o.3 (ap (λ (y : View). y.lent) (root_is o.0 o.1) ∙ home) not_dirty

      numbers_end : Each (λ (p : Change). p.action ≤ length (labels_of r.log)) r.log
      numbers_end = let l = length_labels r.log in each_both (λ (p : Change). p.action ≤ version r.log 0 + 1) (λ (p : Change). p.action ≡ version r.log 0 + 1 → (lock t 0 % 4 ≡ 1) × (p.by ≡ t.holder 0)) (λ (p : Change). p.action ≤ length (labels_of r.log))
          (λ p below current. dite (ℕ_discrete p.action (version r.log 0 + 1)) (λ e. absurd (not_dirty (current e).0)) (λ n. omega arith)) r.log (actions_below start r.log r.joint.chain) r.joint.current

      floors_end : Each (λ (p : Change). Floor (shows_to p) r.log r.had p.row p.version p.after p.base) r.log
      floors_end = each_both (λ (p : Change). p.after ≤ version r.log 0) (λ (p : Change). Each (λ (e : Change). e.row ≡ p.row → 0 < e.action → e.action ≤ p.after → shows_to p e ≤ p.version) r.log × (p.base ≤ length r.had) × Each (λ (e : Change). e.row ≡ p.row → shows_to p e ≤ p.version) (oldest p.base r.had))
          (λ (p : Change). Floor (shows_to p) r.log r.had p.row p.version p.after p.base) (λ p ends x. record { ended = ends; split_at = x.1; actions = x.0; first = x.2 }) r.log (afters_below start r.log r.joint.chain)
          (each_both (λ (p : Change). Each (λ (e : Change). e.row ≡ p.row → 0 < e.action → e.action ≤ p.after → shows_to p e ≤ p.version) r.log) (λ (p : Change). (p.base ≤ length r.had) × Each (λ (e : Change). e.row ≡ p.row → shows_to p e ≤ p.version) (oldest p.base r.had))
          (λ (p : Change). Each (λ (e : Change). e.row ≡ p.row → 0 < e.action → e.action ≤ p.after → shows_to p e ≤ p.version) r.log × (p.base ≤ length r.had) × Each (λ (e : Change). e.row ≡ p.row → shows_to p e ≤ p.version) (oldest p.base r.had))
          (λ p x y. (x, y.0, y.1)) r.log (above_actions start r.log r.joint.chain) r.joint.floors)

      pub ends : (ws : List ℕ) → s.words ≡ ws → History start ws v
      ends ws words_are = record {
        t = t;
        words_are = words_are;
        seat = id;
        chain = r.joint.chain;
        once = all_made;
        floors = floors_end;
        rising = rises start r.log r.joint.chain;
        numbers = numbers_end;
        had_is = let o = r.joint.root_is in ap (λ (y : View). y.made) (sym (root_is o.0 o.1)) ∙ o.2.made;
        fits = r.seats id v at live;
        rows = final_row;
      }

      pub ended : (ws : List ℕ) → s.words ≡ ws → (h : History start ws v) × (h.t.log ≡ r.log)
      unfolding ends
      ended ws words_are = (ends ws words_are, refl)

  -- what a closed table shows to the seat with the whole sum
  pub closes : (id : ℕ) (v : View) (ws : List ℕ) (xs : List (Option K)) → Final (Seen (Ruled means start) id v) ws xs → v.live ≡ true → IsWhole v → v.lent ≡ false → is_holding (corner v 0).stage ≡ false → 0 < length start
      → (h : History start ws v) × (x : K) × (get_elem? xs 0 ≡ some (Some x)) × means x (labels_of h.t.log)
  unfolding ends
  closes id v ws xs f live whole not_lent outside some_row = let s = f.0 in let r = f.1.0 in let at = f.1.1 in let h = value_home s r id v at live whole outside some_row not_lent in
      (ends s r id v at live whole outside some_row ws f.2, h.0, f.4 0 (Some h.0) h.1, h.2)
