-- The steps of a seat that waits to begin an action: it looks at row 0, and takes it with the value.
use Rattle.std.proofs.Common.{◌≡◌, ℕ, eqb, subst, eq-eqb, ne_eqb, ◌+◌, ◌*◌, ◌/◌, ◌%◌, ◌<◌, ◌≤◌, ◌≢◌, true, false, List, [], length, get_or, set, sym, refl, ap, ◌∙◌, inr, ⊎_elim, arith, append-nil, length-set, get_or-set_other, get_or-set_same}
use Rattle.std.specs.Prelude.{Option, Some}
use Rattle.std.proofs.lemmas.Bool.{cases_Bool, cond-false, cond-true}
use Rattle.pfs_lemmas.proofs.Options.{some_same}
use Rattle.pfs_lemmas.proofs.Bools.{true_not_false}
use mathlib.Core.Logic.{dite}
use mathlib.Core.Option.{some, none, some-injective}
use native.Mathlib.Decide.{ℕ_discrete}
use lib.ListN.{get_elem?}
use prog.Atomic.{either}
use Rattle.atomic_table.specs.Table.{State, Me, step, stepped, keeps, takes as takes_slot, Allows}
use Rattle.atomic_table.proofs.Lists.{at_set, set_here}
use Rattle.pfs_board.specs.declared.view.Change.{Change}
use Rattle.pfs_board.specs.declared.view.Corner.{Corner}
use Rattle.pfs_board.specs.declared.view.Label.{Label}
use Rattle.pfs_board.specs.declared.view.Stage.TheVariants.{Idle, Holding}
use Rattle.pfs_board.specs.declared.view.View.{View}
use Rattle.pfs_board.specs.History.{lock_at, word_at, version, stands, labels_of, version_of, Floor}
use Rattle.pfs_board.specs.Knowledge.{newcomer, corner, is_holding, held, IsWhole, sighted, stale, waited, label_told, begun_with, halfway}
use Rattle.pfs_board.specs.Rule.{Moment, lock, now, IsRead, IsSight, IsEntered, FitsRow, Fits, IsRow, Ruled}
use Rattle.pfs_board.specs.Plays.{waits, enters}
use Rattle.pfs_board.proofs.HistoryFacts.{each_map, length_labels, below_all, floor_new}
use Rattle.pfs_board.proofs.ViewFacts.{held_set, held_stale, length_stale, one, at_below, corners_set, corners_stale, settled_holds}
use Rattle.pfs_board.proofs.RuleSteps.{Later, own_row, whole_is_one, moved_on, same_row, holders_set}
use Rattle.pfs_board.proofs.Looks.{here, sub, look, sees}
use Rattle.pfs_board.proofs.WordSteps.{listed, length_listed, get_listed, after_set, other_row, last_set, later_set, taker}
use Rattle.pfs_board.proofs.Seats.{settled_row}
use Rattle.pfs_board.proofs.ValueLoans.{out_with, spent_home}

module _ {K : Type 0} (means : K → List Label → Type 0) (start : List ℕ) where
  abbrev St : Type 0
  St = State (Option K) View

  abbrev M : Type 0
  M = Me (Option K) View

  abbrev Rule : St → Type 0
  Rule = Ruled means start

  outside_holds : (s : St) (r : Rule s) (id : ℕ) (v : View) → get_elem? s.views id ≡ some v → v.live ≡ true → v.action ≡ 0 → is_holding (corner v 0).stage ≡ false
  outside_holds s r id v at live outside = ⊎_elim (λ x. x.1) (λ x. let z = x.0 in absurd (omega arith)) (r.seats id v at live).inside

  pub wait_keeps : (slots id : ℕ) (me : M) → 0 < length start → me.0.live ≡ true → me.0.action ≡ 0 → Allows Rule slots id me 0 (λ n. n) (waits (step slots 0 0 0 none) me)
  wait_keeps slots id me some_row live outside s r _ at _ = let v : View = me.0 in let f = r.seats id v at live in (
    waited v (lock (here means start s r) 0),
    keeps,
    tt,
    sees means start s r id 0 (v.looks + 1) me.1 v Idle v.reads v.sights at live some_row (outside_holds s r id v at live outside) refl tt (λ k xs is. cc) f.reads f.sights,
    (refl, look means start s r id 0 v at live some_row, outside_holds s r id v at live outside),
  )

  module _ (s : St) (r : Rule s) (id : ℕ) (v : View) (at : get_elem? s.views id ≡ some v) (live : v.live ≡ true) (some_row : 0 < length start)
      (outside : v.action ≡ 0) (home : v.lent ≡ false) (room : held v.rows < v.allowance) (clean : lock (here means start s r) 0 % 4 ≢ 1) where
    abbrev t : Moment
    t = here means start s r

    abbrev L : List Label
    L = labels_of r.log

    abbrev found : List ℕ
    found = listed (now t 0) 16

    abbrev w : View
    w = halfway (begun_with v (label_told v) L found) true

    abbrev c : Corner
    c = sighted (Holding (length L) found []) (4 * length L + 1)

    abbrev hd : ℕ → ℕ
    hd = taker means start 0 id r.holder

    abbrev t' : Moment
    t' = after_set start t 0 (4 * length L + 1) hd

    counted : length L ≡ version r.log 0
    counted = length_labels r.log

    no_other_out : (j : ℕ) (u : View) → j ≢ id → get_elem? s.views j ≡ some u → u.lent ≡ true → ⊥
    no_other_out j u n there out = ⊎_elim (λ (a : (lock t 0 % 4 ≡ 1) × (j ≡ r.holder 0)). clean a.0)
        (λ whole. n (whole_is_one means start t s.homes s.views r.joint id j v u at (r.seats id v at live).some_left there whole)) (out_with means start s r j u there (spent_home means start s r j u there out) out)

    -- no action is on, so the value is at home
    pub value_here : (x : K) × (get_elem? s.homes 0 ≡ some (some (Some x))) × means x L
    value_here = let o = r.joint.root_is in o.3 (⊎_elim
        (λ out. absurd (dite (ℕ_discrete 0 id)
        (λ e. let same : o.0 ≡ v = some-injective _ _ (sym o.1 ∙ (ap (get_elem? s.views) e ∙ at)) in true_not_false v.lent (ap (λ (x : View). x.lent) (sym same) ∙ out) home)
        (λ n. no_other_out 0 o.0 n o.1 out)))
        (λ in_place. in_place) (cases_Bool o.0.lent)) clean

    wide_now : 0 < length (stale v.rows)
    wide_now = let wide = (r.seats id v at live).wide in let l = length_stale v.rows in omega arith

    lock_now : lock t' 0 ≡ 4 * length L + 1
    lock_now = let wide = r.joint.wide in get_or-set_same s.words 0 (4 * length L + 1) 0 (omega arith)

    stays : (p : ℕ) → p ≢ 0 → hd p ≡ r.holder p
    stays p n = cond-false (eqb p 0) id (r.holder p) (ne_eqb p 0 n)

    mine : hd 0 ≡ id
    mine = cond-true (eqb 0 0) id (r.holder 0) refl

    later_now : Later start id t t'
    later_now = let is = lock_now in later_set start t id 0 0 (4 * length L + 1) hd (omega arith) (omega arith) stays (λ j e. absurd (clean (ap (λ z. z % 4) e ∙ omega arith))) (λ j e. omega arith) (λ by n odd e _. absurd (clean (ap (λ z. z % 4) e ∙ odd)))

    first_row : FitsRow start t' id 0 (length L) v.base (IsWhole w) c
    first_row = let n_is = counted in let f = r.seats id v at live in let g = r.rows 0 some_row in let split_at = f.split_at in
        let now_same : (i : ℕ) → i < 16 → now t' 0 i ≡ now t 0 i = λ i h. get_or-set_other s.words 0 (word_at 0 i) (4 * length L + 1) 0 (λ e. omega arith) in
        let stands_now : (i : ℕ) → i < 16 → now t 0 i ≡ stands start r.log 0 i = g.clean clean in record {
          knows = (lock_now, sym mine, length_listed (now t 0) 16, omega arith, (λ i j. get_listed (now t 0) 16 i j ∙ stands_now i j), (λ i j. absurd (omega arith)), (λ i _ j. now_same i j ∙ stands_now i j));
          seen = omega arith;
          last = each_map (λ (p : Change). p.row ≡ 0 → version_of p ≤ version r.log 0) (λ (p : Change). p.row ≡ 0 → p.by ≡ id → p.version ≤ (4 * length L + 1) / 4) (λ p b a _. let m = b a in omega arith) r.log (below_all start r.log 0 r.joint.chain);
          tied = λ j xs a. cc;
          known = λ n fresh a. let is : 4 * length L + 1 ≡ n = some_same (4 * length L + 1) n a in let q_is : n / 4 ≡ version r.log 0 = omega arith in record {
            state = omega arith;
            below = omega arith;
            free = λ z. absurd (omega arith);
            opened = λ z. absurd (omega arith);
            floor = subst (λ z. Floor version_of r.log r.had 0 z (length L) v.base) (sym q_is) (floor_new version_of r.log r.had 0 (version r.log 0) (length L) v.base (omega arith) f.split_at (sub means start s r) (below_all start r.log 0 r.joint.chain));
          };
          alone = λ _ n fresh a. lock_now ∙ some_same (4 * length L + 1) n a;
        }

    fits_now : Fits start t' id w
    fits_now = let f = r.seats id v at live in let n_is = counted in let later = later_now in let wide = f.wide in let l = length_stale v.rows in let within = wide_now in
        let h : held (set (stale v.rows) 0 c) + one (get_or (stale v.rows) 0 newcomer) ≡ held (stale v.rows) + 1 = held_set (stale v.rows) 0 c wide_now in let same_held = held_stale v.rows in record {
          number_is = f.number_is;
          start_is = f.start_is;
          wide = ap (λ n. 17 * n) (length-set (stale v.rows) 0 c ∙ l) ∙ f.wide;
          some_left = f.some_left;
          enough = omega arith;
          corners = corners_set (λ q d. FitsRow start t' id q (length L) v.base (IsWhole w) d) (stale v.rows) 0 c wide_now first_row
              (λ q n. corners_stale (FitsRow start t' id q (length L) v.base (IsWhole w)) v.rows q
              (settled_row start t' id q v.after (length L) v.base (IsWhole v) (IsWhole w) (corner v q) (corner v q).seen (f.corners q).seen
              (own_row start id t t' q v.after v.base (IsWhole v) (IsWhole v) (corner v q) later (other_row start t 0 0 (4 * length L + 1) hd (omega arith) (omega arith) stays q n) (λ b. last_set start t 0 (4 * length L + 1) hd id q (corner v q).last b) (λ z. z) (f.corners q))));
          inside = inr (ap (λ n. n + 1) counted, ap (λ (d : Corner). is_holding d.stage) (get_or-set_same (stale v.rows) 0 c newcomer wide_now), refl, refl, counted);
          ended = omega arith;
          split_at = f.split_at;
          reads = each_map (IsRead start t) (IsRead start t') later.read v.reads f.reads;
          sights = each_map (IsSight start t) (IsSight start t') later.sight v.sights f.sights;
          entered = (record { count = refl; later = []; labels_are = sym (append-nil L) }, each_map (IsEntered start t) (IsEntered start t') later.entered v.entered f.entered);
        }

    rows_now : (p : ℕ) → lock_at p < length start → IsRow start t' (set s.views id w) p
    rows_now p there = let n_is = counted in dite (ℕ_discrete p 0)
        (λ a. subst (IsRow start t' (set s.views id w)) (sym a) record {
          counts = ap (λ z. z / 4) lock_now ∙ (omega arith ∙ counted);
          state = subst (λ z. z % 4 < 3) (sym lock_now) (omega arith);
          clean = λ n. absurd (n (ap (λ z. z % 4) lock_now ∙ omega arith));
          free = λ z. let is = lock_now in absurd (omega arith);
          allocated = λ z. let is = lock_now in absurd (omega arith);
          dirty = λ _. (w, ap (get_elem? (set s.views id w)) mine ∙ set_here s.views id w (at_below s.views id v at), live, ap (λ (z : Corner). is_holding z.stage) (get_or-set_same (stale v.rows) 0 c newcomer wide_now));
        })
        (λ n. same_row start t t' s.views (set s.views id w) p (other_row start t 0 0 (4 * length L + 1) hd (omega arith) (omega arith) stays p n)
        (holders_set means start s.views id v w p at live
        (λ b. ap (λ (z : Corner). is_holding z.stage) (get_or-set_other (stale v.rows) 0 p c newcomer n) ∙ corners_stale (λ (z : Corner). is_holding z.stage ≡ true) v.rows p (settled_holds (corner v p).stage ∙ b)) (r.holder p)) (r.rows p there))

    pub enter_rule : Rule record { words = set s.words 0 (4 * length L + 1); homes = set s.homes 0 none; views = set s.views id w }
    enter_rule = moved_on means start s r t'.words hd (set s.homes 0 none) id v w at (r.seats id v at live).some_left record { live_is = live; made_is = refl; allowance_is = refl; seats_is = refl } (length-set s.words 0 (4 * length L + 1))
        (each_map (λ (p : Change). p.action ≡ version r.log 0 + 1 → (lock t 0 % 4 ≡ 1) × (p.by ≡ r.holder 0)) (λ (p : Change). p.action ≡ version r.log 0 + 1 → (lock t' 0 % 4 ≡ 1) × (p.by ≡ hd 0)) (λ p g e. absurd (clean (g e).0)) r.log r.joint.current)
        (λ u there _ not_dirty. absurd (not_dirty (ap (λ z. z % 4) lock_now ∙ omega arith)))
        (λ j u there out rests. absurd (⊎_elim (λ (h : (j ≡ id) × (w ≡ u)). true_not_false u.moving (ap (λ (x : View). x.moving) (sym h.1)) rests) (λ (h : (j ≢ id) × (get_elem? s.views j ≡ some u)). no_other_out j u h.0 h.1 out) (at_set s.views id j w u there)))
        later_now fits_now rows_now

  pub enter_keeps : (slots id : ℕ) (me : M) (old new : ℕ) → 0 < length start → me.0.live ≡ true → me.0.action ≡ 0 → me.0.lent ≡ false → held me.0.rows < me.0.allowance → old % 4 ≢ 1 → new ≡ 4 * (old / 4) + 1
      → Allows Rule slots id me 0 (λ n. either (eqb n old) new n) (enters means (step slots 0 old new none) me)
  enter_keeps slots id me old new some_row live outside home room not_dirty dirty s r _ at _ = let v : View = me.0 in let t : Moment = here means start s r in let n : ℕ = lock t 0 in let f = r.seats id v at live in let seen = look means start s r id 0 v at live some_row in dite (ℕ_discrete n old)
      (λ hit. let clean : lock t 0 % 4 ≢ 1 = λ e. not_dirty (ap (λ z. z % 4) (sym hit) ∙ e) in let labels : List Label = labels_of r.log in let found : List ℕ = listed (now t 0) 16 in let w1 : View = halfway (begun_with v (label_told v) labels found) true in
      let value = value_here s r id v at live some_row outside home room clean in let counts = (r.rows 0 some_row).counts in let l = length_labels r.log in let long : length labels ≡ n / 4 = omega arith in let new_is : 4 * length labels + 1 ≡ new = omega arith in (
        w1,
        takes_slot 0 (Some value.0),
        value.1,
        subst (λ b. Rule (stepped s 0 (either b new n) id me.1 w1 (takes_slot 0 (Some value.0)))) (sym (eq-eqb n old hit)) (subst (λ z. Rule (stepped s 0 z id me.1 w1 (takes_slot 0 (Some value.0)))) new_is (enter_rule s r id v at live some_row outside home room clean)),
        ((λ _. (found, labels, value.0, length_listed (now t 0) 16, long, value.2, refl)), (λ miss. absurd (miss hit)), seen),
      ))
      (λ miss. (
        waited v n,
        keeps,
        tt,
        subst (λ b. Rule (stepped s 0 (either b new n) id me.1 (waited v n) keeps)) (sym (ne_eqb n old miss)) (sees means start s r id 0 (v.looks + 1) me.1 v Idle v.reads v.sights at live some_row (outside_holds s r id v at live outside) refl tt (λ k xs is. cc) f.reads f.sights),
        ((λ hit. absurd (miss hit)), (λ _. refl), seen),
      ))
