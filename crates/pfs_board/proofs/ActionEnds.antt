-- The last step of an action: row 0 is published with its label, and the value goes home.
use Rattle.std.proofs.Common.{◌≡◌, ℕ, subst, ◌+◌, ◌-◌, ◌*◌, ◌/◌, ◌%◌, ◌<◌, ◌≤◌, ◌≢◌, true, false, List, [], ◌∷◌, ◌++◌, length, set, sym, refl, ap, ◌∙◌, inl, inr, ⊎_elim, arith, length-set, get_or-set_same}
use Rattle.std.specs.Prelude.{Option, Some}
use Rattle.pfs_lemmas.proofs.Bools.{true_not_false}
use mathlib.Core.Logic.{dite}
use mathlib.Core.Option.{some, none}
use native.Mathlib.Decide.{ℕ_discrete}
use lib.ListN.{get_elem?}
use Rattle.atomic_table.specs.Table.{State, Me, step, stepped, gives, Allows}
use Rattle.atomic_table.proofs.Lists.{at_set, set_here}
use Rattle.pfs_board.specs.declared.view.Change.{Change}
use Rattle.pfs_board.specs.declared.view.Corner.{Corner}
use Rattle.pfs_board.specs.declared.view.Label.{Label}
use Rattle.pfs_board.specs.declared.view.Stage.{Stage}
use Rattle.pfs_board.specs.declared.view.Stage.TheVariants.{Idle, Holding}
use Rattle.pfs_board.specs.declared.view.View.{View}
use Rattle.pfs_board.specs.History.{step_of, version, stands, labels_of, version_of}
use Rattle.pfs_board.specs.Knowledge.{newcomer, corner, is_holding, IsWhole, sighted, change_of, version_held, found_in, stored_in, ended_with, halfway}
use Rattle.pfs_board.specs.Rule.{Moment, lock, Knows, IsRead, IsKnown, IsSight, IsEntered, IsLast, FitsRow, Fits, IsCurrent, Ruled}
use Rattle.pfs_board.specs.Plays.{leaves}
use Rattle.pfs_board.proofs.HistoryFacts.{each_map, each_both, stands_put, labels_put, version_here, actions_below}
use Rattle.pfs_board.proofs.ViewFacts.{held_some, corners_set}
use Rattle.pfs_board.proofs.RuleSteps.{Later, own_row, seats_set}
use Rattle.pfs_board.proofs.Looks.{here}
use Rattle.pfs_board.proofs.Publications.{after_entry, had_long, Leaves, left_row, own_left, later_left, Adds, joint_left, row_left, rows_left, held_left}
use Rattle.pfs_board.proofs.ValueLoans.{holding_is, out_once}

module _ {K : Type 0} (means : K → List Label → Type 0) (start : List ℕ) where
  abbrev St : Type 0
  St = State (Option K) View

  abbrev M : Type 0
  M = Me (Option K) View

  abbrev Rule : St → Type 0
  Rule = Ruled means start

  module _ (s : St) (r : Rule s) (id : ℕ) (v : View) (at : get_elem? s.views id ≡ some v) (live : v.live ≡ true) (some_row : 0 < length start) (inside : 0 < v.action) (calm : stored_in (corner v 0).stage ≡ []) where
    abbrev t : Moment
    t = here means start s r

    abbrev stage : Stage
    stage = (corner v 0).stage

    abbrev k : ℕ
    k = version_held stage

    abbrev found : List ℕ
    found = found_in stage

    abbrev n : ℕ
    n = 4 * v.action + 2

    abbrev p : Change
    p = change_of v 0 v.action true v.label found found

    abbrev u : Moment
    u = after_entry t id 0 n p

    abbrev w : View
    w = halfway (ended_with v found) false

    -- the seat holds row 0, and its action is the next
    within_action : (v.action ≡ version r.log 0 + 1) × (is_holding stage ≡ true) × (v.lent ≡ true) × (v.labels ≡ labels_of r.log) × (v.after ≡ version r.log 0)
    within_action = ⊎_elim (λ x. let z = x.0 in absurd (omega arith)) (λ x. x) (r.seats id v at live).inside

    known : Knows start t id 0 (Holding k found [])
    known = subst (λ (z : List ℕ). Knows start t id 0 (Holding k found z)) calm (subst (Knows start t id 0) (holding_is stage within_action.1) ((r.seats id v at live).corners 0).knows)

    next : v.action ≡ k + 1
    next = let a = within_action.0 in let word : lock t 0 ≡ 4 * k + 1 = known.0 in let counts = (r.rows 0 some_row).counts in omega arith

    leaves_row : Leaves start t id 0 k n p
    leaves_row = let f = r.seats id v at live in let a = within_action in let is = next in let number = a.0 in let wide = r.joint.wide in record {
      mine = sym known.1;
      word = known.0;
      row_is = refl;
      by_is = f.number_is;
      version_is = next;
      counts = omega arith;
      state = omega arith;
      clean = λ z. omega arith;
      frees = λ z. absurd (omega arith);
      puts = λ z. refl;
      content = λ i h. known.6 i (omega arith) h ∙ (sym (known.4 i h) ∙ sym (stands_put start p r.log 0 i refl refl));
      follows = record { numbered = a.0; found_wide = known.2; put_wide = known.2; found_is = known.4; inside = inr a.0; after_it = f.ended; first = λ _. (refl, refl) };
      inside_it = omega arith;
      at_version = omega arith;
    }

    pays : v.allowance - 1 + step_of p ≡ v.allowance
    pays = let some_held = held_some v.rows 0 within_action.1 in let enough = (r.seats id v at live).enough in omega arith

    adds : Adds means start v w 0 n (v.allowance - 1) p
    adds = record { made_is = refl; allowance_is = refl; rows_are = refl; seats_is = refl; live_is = live; base_is = refl }

    version_now : version u.log 0 ≡ v.action
    version_now = version_here p r.log 0 refl ∙ sym within_action.0

    current_now : IsCurrent start u u.log
    current_now = let e = version_now in let a = within_action.0 in (
      (λ h. absurd (omega arith)),
      each_map (λ (c : Change). c.action ≤ version r.log 0 + 1) (λ (c : Change). c.action ≡ version u.log 0 + 1 → (lock u 0 % 4 ≡ 1) × (c.by ≡ u.holder 0)) (λ c b h. absurd (omega arith)) r.log (actions_below start r.log r.joint.chain),
    )

    later_now : Later start id t u
    later_now = later_left start t id 0 k n p leaves_row

    -- a word that was seen since the action began is at none below what the action did
    known_now : (q m : ℕ) → 0 ≢ q → (corner v q).fresh ≡ true → (corner v q).last ≡ Some m → IsKnown start u q m v.action v.base
    known_now q m n fresh is = let f = r.seats id v at live in let o = later_now.known q m v.after v.base ((f.corners q).known m fresh is) in let last : IsLast start t id q (Some m) = subst (IsLast start t id q) is (f.corners q).last in let e = version_now in let number = within_action.0 in let after = within_action.4 in record {
      state = o.state;
      below = o.below;
      free = o.free;
      opened = o.opened;
      floor = record {
        ended = omega arith;
        split_at = o.floor.split_at;
        actions = (
          (λ row _ _. absurd (n row)),
          each_both (λ (c : Change). c.row ≡ q → 0 < c.action → c.action ≤ v.after → version_of c ≤ m / 4) (λ (c : Change). (c.row ≡ q → c.by ≡ id → c.version ≤ m / 4) × (c.action ≡ version t.log 0 + 1 → (lock t 0 % 4 ≡ 1) × (c.by ≡ t.holder 0)))
              (λ (c : Change). c.row ≡ q → 0 < c.action → c.action ≤ v.action → version_of c ≤ m / 4)
              (λ c old own row some_action low. dite (ℕ_discrete c.action v.action) (λ h. own.0 row ((own.1 (h ∙ within_action.0)).1 ∙ sym known.1)) (λ h. old row some_action (omega arith)))
              r.log o.floor.actions.1
              (each_both (λ (c : Change). c.row ≡ q → c.by ≡ id → c.version ≤ m / 4) (λ (c : Change). c.action ≡ version t.log 0 + 1 → (lock t 0 % 4 ≡ 1) × (c.by ≡ t.holder 0))
              (λ (c : Change). (c.row ≡ q → c.by ≡ id → c.version ≤ m / 4) × (c.action ≡ version t.log 0 + 1 → (lock t 0 % 4 ≡ 1) × (c.by ≡ t.holder 0))) (λ c a b. (a, b)) r.log last r.joint.current),
        );
        first = o.floor.first;
      };
    }

    other_row : (q : ℕ) → q ≢ 0 → FitsRow start u id q v.action v.base (IsWhole w) (corner v q)
    other_row q n = let f = r.seats id v at live in let h = held_left means start s r id 0 k (4 * v.action + 2) (v.allowance - 1) p v at live some_row leaves_row within_action.1 pays w adds in
        let o = own_row start id t u q v.after v.base (IsWhole v) (IsWhole w) (corner v q) later_now (left_row start t id 0 k (4 * v.action + 2) p leaves_row q n) (own_left start t id 0 k (4 * v.action + 2) p leaves_row q (corner v q).last n) (λ whole. sym h.2 ∙ whole) (f.corners q) in record {
          knows = o.knows;
          seen = o.seen;
          last = o.last;
          tied = o.tied;
          known = λ m fresh is. known_now q m (λ e. n (sym e)) fresh is;
          alone = o.alone;
        }

    fits_now : Fits start u id w
    fits_now = let f = r.seats id v at live in let later = later_now in let e = version_now in let wide = f.wide in let within : 0 < length v.rows = omega arith in let long = had_long id p r.had in let split_at = f.split_at in
        let h = held_left means start s r id 0 k n (v.allowance - 1) p v at live some_row leaves_row within_action.1 pays w adds in record {
          number_is = f.number_is;
          start_is = f.start_is;
          wide = ap (λ z. 17 * z) (length-set v.rows 0 (sighted Idle n)) ∙ f.wide;
          some_left = h.1;
          enough = h.0;
          corners = corners_set (λ q d. FitsRow start u id q v.action v.base (IsWhole w) d) v.rows 0 (sighted Idle n) within
              (row_left means start s r id 0 k n (v.allowance - 1) p v at live some_row leaves_row within_action.1 pays w adds v.action (IsWhole w) (omega arith)) other_row;
          inside = inl (refl, ap (λ (d : Corner). is_holding d.stage) (get_or-set_same v.rows 0 (sighted Idle n) newcomer within), λ out. cc);
          ended = omega arith;
          split_at = omega arith;
          reads = each_map (IsRead start t) (IsRead start u) later.read v.reads f.reads;
          sights = each_map (IsSight start t) (IsSight start u) later.sight v.sights f.sights;
          entered = each_map (IsEntered start t) (IsEntered start u) later.entered v.entered f.entered;
        }

    pub leave_rule : (y : K) → 0 < length s.homes → means y (v.labels ++ v.label ∷ []) → Rule record { words = set s.words 0 n; homes = set s.homes 0 (some (Some y)); views = set s.views id w }
    leave_rule y some_slot stands = let f = r.seats id v at live in record {
      log = u.log;
      had = u.had;
      holder = r.holder;
      joint = joint_left means start s r id 0 k n (v.allowance - 1) p v at live some_row leaves_row within_action.1 pays w adds (set s.homes 0 (some (Some y))) current_now
          (λ x there _ _. (y, set_here s.homes 0 (some (Some y)) some_slot, subst (means y) (ap (λ z. z ++ v.label ∷ []) within_action.3 ∙ sym (labels_put p r.log refl refl)) stands))
          (λ j x there out _. absurd (⊎_elim (λ (h : (j ≡ id) × (w ≡ x)). true_not_false x.lent out (ap (λ (z : View). z.lent) (sym h.1))) (λ (h : (j ≢ id) × (get_elem? s.views j ≡ some x)). h.0 (out_once means start s r id v at live within_action.2 j x h.1 out)) (at_set s.views id j w x there)));
      seats = seats_set means start t u s.homes s.views id v w r.joint at f.some_left later_now fits_now r.seats;
      rows = rows_left means start s r id 0 k n (v.allowance - 1) p v at live some_row leaves_row within_action.1 pays w adds;
    }

  pub leave_keeps : (slots id : ℕ) (me : M) (y : K) (new : ℕ) → 0 < length start → 0 < slots → me.0.live ≡ true → 0 < me.0.action → stored_in (corner me.0 0).stage ≡ [] → me.1 ≡ (0, Some y) ∷ [] → means y (me.0.labels ++ me.0.label ∷ []) → new ≡ 4 * me.0.action + 2
      → Allows Rule slots id me 0 (λ _. new) (λ _. leaves (step slots 0 new 0 none) me new)
  leave_keeps slots id me y new some_row some_slot live inside calm carried stands is s r many at _ = let v : View = me.0 in let w1 : View = halfway (ended_with v (found_in (corner v 0).stage)) false in (
    w1,
    gives,
    tt,
    subst (λ (z : List (ℕ × Option K) × ℕ). Rule (stepped s 0 z.1 id z.0 w1 gives)) (λ i. (sym carried i, sym is i)) (leave_rule s r id v at live some_row inside calm y (omega arith) stands),
    refl,
  )
