-- The steps that add an entry to the history: a publication, and a release, of a row but row 0.
use Rattle.std.proofs.Common.{◌≡◌, ℕ, eqb, subst, eq-eqb, ne_eqb, ◌+◌, ◌-◌, ◌*◌, ◌/◌, ◌%◌, ◌<◌, ◌≤◌, ◌≢◌, true, false, cond, not, List, [], ◌∷◌, ◌++◌, length, get_or, set, sym, refl, ap, ◌∙◌, inl, inr, ⊎_elim, arith, append_assoc, length-set, get_or-set_other, get_or-set_same}
use Rattle.std.specs.Prelude.{Option, Some, None}
use Rattle.std.proofs.lemmas.Bool.{cases_Bool, cond-false, cond-true}
use Rattle.pfs_lemmas.proofs.Options.{some_same}
use mathlib.Core.Logic.{dite}
use mathlib.Core.Option.{some, none}
use mathlib.Core.Option as maybe
use native.Mathlib.Decide.{ℕ_discrete}
use lib.ListN.{get_elem?}
use Rattle.atomic_table.specs.Table.{State, Me, step, keeps, stepped, Allows}
use Rattle.pfs_board.specs.declared.view.Change.{Change}
use Rattle.pfs_board.specs.declared.view.Corner.{Corner}
use Rattle.pfs_board.specs.declared.view.Entered.{Entered}
use Rattle.pfs_board.specs.declared.view.Finished.{Finished}
use Rattle.pfs_board.specs.declared.view.Label.{Label}
use Rattle.pfs_board.specs.declared.view.Sight.{Sight}
use Rattle.pfs_board.specs.declared.view.Stage.{Stage}
use Rattle.pfs_board.specs.declared.view.Stage.TheVariants.{Idle, Reading, Holding}
use Rattle.pfs_board.specs.declared.view.View.{View}
use Rattle.pfs_board.specs.History.{total, Each, lock_at, word_at, step_of, version, stands, labels_of, Follows, IsChain, oldest, level, version_of, shows_to, Floor}
use Rattle.pfs_board.specs.Knowledge.{newcomer, corner, is_holding, held, IsWhole, turned, sighted, change_of, no_label, version_held, found_in, stored_in, published_at, published, freed_at, freed}
use Rattle.pfs_board.specs.Rule.{Moment, lock, now, Knows, IsRead, IsKnown, IsOthers, IsSeen, IsSight, IsEntered, IsLast, IsInside, FitsRow, Fits, IsRow, IsHome, IsCurrent, Joint, Ruled}
use Rattle.pfs_board.specs.Plays.{publishes, frees}
use Rattle.pfs_board.proofs.HistoryFacts.{each_map, version_here, version_other, version_more, stands_other, stands_put, stands_release, free_other, free_here, stood_before, below_all, labels_other, labels_more, shows_next, freed_more, oldest_more, of_all, each_oldest, floor_new, floor_log, floor_had}
use Rattle.pfs_board.proofs.ViewFacts.{total_set, held_set, held_some, one, at_below}
use Rattle.pfs_board.proofs.RuleSteps.{SameRow, same_knows, same_row, Later, fits_after, inside_same, root_set, root_home, home_set, lent_set, spent_set, seats_set, holders_set}
use Rattle.pfs_board.proofs.Looks.{here, sub}

-- the root's changes after one of the seat id
abbrev pub had_after : ℕ → Change → List Change → List Change
had_after id p had = cond (eqb id 0) (p ∷ had) had

had_either : (P : List Change → Type 0) (id : ℕ) (p : Change) (had : List Change) → P (p ∷ had) → P had → P (had_after id p had)
had_either P id p had with_it without = ⊎_elim (λ e. subst P (sym (cond-true (eqb id 0) (p ∷ had) had e)) with_it) (λ e. subst P (sym (cond-false (eqb id 0) (p ∷ had) had e)) without) (cases_Bool (eqb id 0))

pub had_long : (id : ℕ) (p : Change) (had : List Change) → length had ≤ length (had_after id p had)
had_long id p had = had_either (λ z. length had ≤ length z) id p had (omega arith) (omega arith)

had_old : (id : ℕ) (p : Change) (had : List Change) (n : ℕ) → n ≤ length had → oldest n (had_after id p had) ≡ oldest n had
had_old id p had n h = had_either (λ z. oldest n z ≡ oldest n had) id p had (oldest_more n p had h) refl

-- the moment after the row q was left at the lock word n, with the entry p
abbrev pub after_entry : Moment → ℕ → ℕ → ℕ → Change → Moment
after_entry t id q n p = record { words = set t.words (lock_at q) n; log = p ∷ t.log; had = had_after id p t.had; holder = t.holder }

pub holding_knows : (start : List ℕ) (t : Moment) (seat r : ℕ) (st : Stage) → is_holding st ≡ true → Knows start t seat r st → (lock t r % 4 ≡ 1) × (seat ≡ t.holder r)
holding_knows start t seat r Idle h k = cc
holding_knows start t seat r (Reading v xs) h k = cc
holding_knows start t seat r (Holding v found put) h k = let e = k.0 in (omega arith, k.1)

-- how the holder of the row q leaves it: at the lock word n, with the entry p
pub record Leaves (start : List ℕ) (t : Moment) (id q k n : ℕ) (p : Change) : Type 0 where
  pub mine : t.holder q ≡ id
  pub word : lock t q ≡ 4 * k + 1
  pub row_is : p.row ≡ q
  pub by_is : p.by ≡ id
  pub version_is : p.version ≡ k + step_of p
  pub counts : n / 4 ≡ k + step_of p
  pub state : n % 4 < 3
  pub clean : n % 4 ≢ 1
  pub frees : n % 4 ≡ 0 → p.puts ≡ false
  pub puts : n % 4 ≡ 2 → p.puts ≡ true
  pub content : (i : ℕ) → i < 16 → now t q i ≡ stands start (p ∷ t.log) q i
  pub follows : Follows start t.log p
  pub inside_it : lock_at q < length t.words
  pub at_version : version t.log q ≡ k

module _ (start : List ℕ) (t : Moment) (id q k n : ℕ) (p : Change) (x : Leaves start t id q k n p) where
  abbrev t' : Moment
  t' = after_entry t id q n p

  pub left_row : (r : ℕ) → r ≢ q → SameRow start t t' r
  left_row r ne = let other : p.row ≢ r = λ e. ne (sym e ∙ x.row_is) in record {
    lock_is = get_or-set_other t.words (lock_at q) (lock_at r) n 0 (λ e. ne (omega arith));
    now_is = λ j h. get_or-set_other t.words (lock_at q) (word_at r j) n 0 (λ e. ne (omega arith));
    version_is = version_other p t.log r other;
    stands_is = λ j. stands_other start p t.log r j other;
    free_is = free_other start p t.log r other;
    holder_is = refl;
  }

  pub left_lock : lock t' q ≡ n
  left_lock = get_or-set_same t.words (lock_at q) n 0 x.inside_it

  pub left_zero : q ≢ 0 → SameRow start t t' 0
  left_zero nz = left_row 0 (λ e. nz (sym e))

  pub left_labels : q ≢ 0 → labels_of t'.log ≡ labels_of t.log
  left_labels nz = labels_other p t.log (λ e. nz (sym x.row_is ∙ e))

  pub left_version : version t'.log q ≡ k + step_of p
  left_version = version_here p t.log q x.row_is ∙ ap (λ z. z + step_of p) x.at_version

  floor_left : (f : Change → ℕ) (row v after base : ℕ) → Floor f t.log t.had row v after base → Floor f t'.log t'.had row v after base
  floor_left f row v after base o = floor_had f t'.log t.had row v after base t'.had (had_long id p t.had) (had_old id p t.had base o.split_at) (floor_log f t.log t.had row v after base p x.follows.inside o)

  known_left : (row m after base : ℕ) → IsKnown start t row m after base → IsKnown start t' row m after base
  known_left row m after base a = let b = a.below in let v = version_more p t.log row in record { state = a.state; below = omega arith; free = λ z. freed_more start p t.log row (m / 4) (a.free z); opened = a.opened; floor = floor_left version_of row (m / 4) after base a.floor }

  others_left : (by row m : ℕ) → m % 4 ≡ 1 → IsOthers start t by row m → IsOthers start t' by row m
  others_left by row m odd o = ⊎_elim (λ (h : (lock t row ≡ m) × (t.holder row ≢ by)). dite (ℕ_discrete row q)
      (λ e. let same : m ≡ 4 * k + 1 = sym h.0 ∙ (ap (lock t) e ∙ x.word) in let v = x.version_is in
      inr (inl (x.row_is ∙ sym e, (λ g. h.1 (ap t.holder e ∙ (x.mine ∙ (sym x.by_is ∙ g)))), x.version_is ∙ ap (λ z. z + step_of p) (omega arith))))
      (λ ne. let s = left_row row ne in inl (s.lock_is ∙ h.0, h.1))) (λ g. inr (inr g)) o

  seen_left : (by row m after base : ℕ) → IsSeen start t by row m after base → IsSeen start t' by row m after base
  seen_left by row m after base a = record { known = known_left row m after base a.known; dirty = λ z. others_left by row m z (a.dirty z) }

  sight_left : (y : Sight) → IsSight start t y → IsSight start t' y
  sight_left y a = let b = a.two.known.below in record {
    one = seen_left y.by y.row y.first y.after y.base a.one;
    two = seen_left y.by y.row y.second y.after y.base a.two;
    shape = a.shape;
    order = a.order;
    again = a.again;
    between = λ differ clean. ((λ e _ puts. let row : q ≡ y.row = sym x.row_is ∙ e in let at_row = ap (version t.log) row in let v = x.version_is in let w = x.at_version in let one_up = cond-true {A = ℕ} p.puts 1 0 puts in inr (omega arith)), a.between differ clean);
  }

  read_left : (f : Finished) → IsRead start t f → IsRead start t' f
  read_left f a = let b = a.below in let v = version_more p t.log f.row in record {
    below = omega arith;
    wide = a.wide;
    content_is = λ i h. a.content_is i h ∙ sym (stood_before start p t.log f.row f.version i x.follows a.below);
    opened = a.opened;
    floor = floor_left level f.row f.version f.after f.base a.floor;
  }

  knows_left : (j : ℕ) → j ≢ id → (st : Stage) → Knows start t j q st → Knows start t' j q st
  knows_left j ne Idle a = tt
  knows_left j ne (Reading v xs) a = let b = a.0 in let m = version_more p t.log q in let w = x.at_version in let c = x.counts in
      (omega arith, a.1, λ is. let n_is : n ≡ 4 * v + 2 = sym left_lock ∙ is in let puts = x.puts (omega arith) in let up = cond-true {A = ℕ} p.puts 1 0 puts in absurd (omega arith))
  knows_left j ne (Holding v found put) a = absurd (ne (a.1 ∙ x.mine))

  last_left : (j r : ℕ) (v : Option ℕ) → j ≢ id → IsLast start t j r v → IsLast start t' j r v
  last_left j r None ne a = ((λ _ e. ne (sym e ∙ x.by_is)), a)
  last_left j r (Some m) ne a = ((λ _ e. absurd (ne (sym e ∙ x.by_is))), a)

  pub own_left : (r : ℕ) (v : Option ℕ) → r ≢ q → IsLast start t id r v → IsLast start t' id r v
  own_left r None ne a = ((λ e _. ne (sym e ∙ x.row_is)), a)
  own_left r (Some m) ne a = ((λ e _. absurd (ne (sym e ∙ x.row_is))), a)

  -- where the row is row 0, no other seat is in an action
  inside_left : (j : ℕ) (v : View) → j ≢ id → (¬ (IsWhole v)) → Knows start t j 0 (corner v 0).stage → IsInside start t v → IsInside start t' v
  inside_left j v ne not_whole a b = dite (ℕ_discrete q 0)
      (λ e. ⊎_elim (λ o. inl (o.0, o.1, λ out. absurd (not_whole (o.2 out).0))) (λ o. let h = holding_knows start t j 0 (corner v 0).stage o.1 a in absurd (ne (h.1 ∙ (ap t.holder (sym e) ∙ x.mine)))) b)
      (λ nz. inside_same start t t' v v record { action_is = refl; after_is = refl; lent_is = refl; labels_is = refl; whole_then = λ z. z } (left_zero nz).version_is (left_labels nz) refl b)

  entered_left : (e : Entered) → IsEntered start t e → IsEntered start t' e
  entered_left e a = let m = labels_more p t.log in record { count = a.count; later = a.later ++ m.0; labels_are = m.1 ∙ (ap (λ z. z ++ m.0) a.labels_are ∙ append_assoc e.labels a.later m.0) }

  pub later_left : Later start id t t'
  later_left = record {
    knows = λ j r st ne a. dite (ℕ_discrete r q) (λ e. subst (λ z. Knows start t' j z st) (sym e) (knows_left j ne st (subst (λ z. Knows start t j z st) e a))) (λ other. same_knows start t t' r j st (left_row r other) a);
    version_up = λ r. version_more p t.log r;
    last = last_left;
    inside = inside_left;
    known = known_left;
    read = read_left;
    sight = sight_left;
    entered = entered_left;
    had_more = had_long id p t.had;
  }

module _ {K : Type 0} (means : K → List Label → Type 0) (start : List ℕ) where
  abbrev St : Type 0
  St = State (Option K) View

  abbrev M : Type 0
  M = Me (Option K) View

  abbrev Rule : St → Type 0
  Rule = Ruled means start

  -- the view w of a seat that leaves the row q with the entry p, and has the allowance a after it
  pub record Adds (v w : View) (q n a : ℕ) (p : Change) : Type 0 where
    pub made_is : w.made ≡ p ∷ v.made
    pub allowance_is : w.allowance ≡ a
    pub rows_are : w.rows ≡ set v.rows q (sighted Idle n)
    pub seats_is : w.seats ≡ v.seats
    pub live_is : w.live ≡ true
    pub base_is : p.base ≡ v.base

  module _ (s : St) (r : Rule s) (id q k n a : ℕ) (p : Change) (v : View) (at : get_elem? s.views id ≡ some v) (live : v.live ≡ true) (inside : lock_at q < length start)
      (x : Leaves start (here means start s r) id q k n p) (holding : is_holding (corner v q).stage ≡ true) (pays : a + step_of p ≡ v.allowance) (w : View) (adds : Adds v w q n a p) where
    abbrev t : Moment
    t = here means start s r

    abbrev u : Moment
    u = after_entry t id q n p

    had_sub : (h : Change → ℕ) → total h u.had ≤ total h u.log
    had_sub h = let b = sub means start s r h in had_either (λ z. total h z ≤ total h u.log) id p r.had (omega arith) (omega arith)

    floors_now : (p.base ≤ length u.had) × Each (λ (e : Change). e.row ≡ p.row → shows_to p e ≤ p.version) (oldest p.base u.had)
    floors_now = let f = r.seats id v at live in let b = f.split_at in let long = had_long id p r.had in let at_k = x.at_version in let base = adds.base_is in
        let top : ℕ = version r.log q in let next : p.version ≡ top + step_of p = x.version_is ∙ ap (λ z. z + step_of p) (sym at_k) in
        let small : p.base ≤ length r.had = omega arith in (
          omega arith,
          subst (Each (λ (e : Change). e.row ≡ p.row → shows_to p e ≤ p.version)) (sym (had_old id p r.had p.base small))
              (each_map (λ (e : Change). e.row ≡ q → version_of e ≤ top) (λ (e : Change). e.row ≡ p.row → shows_to p e ≤ p.version) (λ e g h. shows_next start p e top (g (h ∙ x.row_is)) next) (oldest p.base r.had)
              (each_oldest (λ (e : Change). e.row ≡ q → version_of e ≤ top) p.base r.had (of_all version_of q top r.had r.log (sub means start s r) (below_all start r.log q r.joint.chain)))),
        )

    floors_then : (e : Change) → (e.base ≤ length t.had) × Each (λ (c : Change). c.row ≡ e.row → shows_to e c ≤ e.version) (oldest e.base t.had) → (e.base ≤ length u.had) × Each (λ (c : Change). c.row ≡ e.row → shows_to e c ≤ e.version) (oldest e.base u.had)
    floors_then e g = let long = had_long id p r.had in let b = g.0 in (omega arith, subst (Each (λ (c : Change). c.row ≡ e.row → shows_to e c ≤ e.version)) (sym (had_old id p r.had e.base b)) g.1)

    pub joint_left : (homes : List (maybe.Option (Option K))) → IsCurrent start u u.log → ((y : View) → get_elem? (set s.views id w) 0 ≡ some y → IsHome start u means homes y.lent)
        → ((j : ℕ) (y : View) → get_elem? (set s.views id w) j ≡ some y → y.lent ≡ true → y.moving ≡ false → get_elem? homes 0 ≡ some (some None)) → Joint means start u homes (set s.views id w)
    joint_left homes current home empty = let f = r.seats id v at live in let o = r.joint in let root = o.root_is in let pay = adds.allowance_is in record {
      wide = length-set s.words (lock_at q) n ∙ o.wide;
      chain = (x.follows, o.chain);
      counted = λ h. let e = total_set (λ (y : View). total h y.made) s.views id v w at in let c = o.counted h in let m = ap (total h) adds.made_is in omega arith;
      allowed = let e = total_set (λ (y : View). y.allowance) s.views id v w at in let c = o.allowed in omega arith;
      makers = let b = at_below s.views id v at in let y = x.by_is in subst (λ m. Each (λ (e : Change). e.by < m) u.log) (sym (length-set s.views id w)) (omega arith, o.makers);
      floors = (floors_now, each_map (λ (e : Change). (e.base ≤ length t.had) × Each (λ (c : Change). c.row ≡ e.row → shows_to e c ≤ e.version) (oldest e.base t.had)) (λ (e : Change). (e.base ≤ length u.had) × Each (λ (c : Change). c.row ≡ e.row → shows_to e c ≤ e.version) (oldest e.base u.had)) floors_then r.log o.floors);
      current = current;
      root_is = root_set means start t u homes s.views id v w at
          (λ y at0 ne root. record { here = root.here; seats = root.seats; made = root.made ∙ sym (cond-false (eqb id 0) (p ∷ r.had) r.had (ne_eqb id 0 (λ e. ne (sym e)))) })
          (λ e root. record { here = adds.live_is; seats = root.seats ∙ ap (λ z. z + 1) (sym adds.seats_is); made = adds.made_is ∙ (ap (λ z. p ∷ z) root.made ∙ sym (cond-true (eqb id 0) (p ∷ r.had) r.had (eq-eqb id 0 (sym e)))) })
          home root.0 root.1 root.2;
      empty = empty;
      spent_is = spent_set means start s.views id w adds.live_is o.spent_is;
    }

    -- the row that was left, whose word is known up to the actions that have ended
    pub row_left : (after : ℕ) (whole : Type 0) → after ≤ version u.log 0 → FitsRow start u id q after v.base whole (sighted Idle n)
    row_left after whole ends = let f = r.seats id v at live in let count = x.counts in let up = left_version start t id q k n p x in let state = x.state in let clean = x.clean in let chain : IsChain start u.log = (x.follows, r.joint.chain) in let split_at = f.split_at in let long = had_long id p r.had in record {
      knows = tt;
      seen = omega arith;
      last = each_map (λ (e : Change). e.row ≡ q → version_of e ≤ version u.log q) (λ (e : Change). e.row ≡ q → e.by ≡ id → e.version ≤ n / 4) (λ e g h _. let b = g h in omega arith) u.log (below_all start u.log q chain);
      tied = λ j xs e. cc;
      known = λ m fresh e. let is : n ≡ m = some_same n m e in let v_is : version u.log q ≡ m / 4 = omega arith in record {
        state = subst (λ z. z % 4 < 3) is state;
        below = omega arith;
        opened = λ z. let puts = x.puts (omega (arith, is, z)) in let one_up = cond-true {A = ℕ} p.puts 1 0 puts in let c = x.counts in absurd (omega (arith, one_up, c, is, z));
        free = λ z. inl (inl (x.row_is, x.frees (omega arith), x.version_is ∙ omega arith));
        floor = subst (λ z. Floor version_of u.log u.had q z after v.base) v_is (floor_new version_of u.log u.had q (version u.log q) after v.base ends (omega arith) had_sub (below_all start u.log q chain));
      };
      alone = λ _ m fresh e. left_lock start t id q k n p x ∙ some_same n m e;
    }

    pub rows_left : (b : ℕ) → lock_at b < length start → IsRow start u (set s.views id w) b
    rows_left b there = let lock_is = left_lock start t id q k n p x in let up = left_version start t id q k n p x in dite (ℕ_discrete b q)
        (λ e. subst (IsRow start u (set s.views id w)) (sym e) record {
          counts = ap (λ z. z / 4) lock_is ∙ (x.counts ∙ sym up);
          state = subst (λ z. z % 4 < 3) (sym lock_is) x.state;
          clean = λ _ i h. get_or-set_other s.words (lock_at q) (word_at q i) n 0 (λ g. omega arith) ∙ x.content i h;
          free = λ z. free_here start p r.log q x.row_is ∙ ap not (x.frees (ap (λ g. g % 4) (sym lock_is) ∙ z));
          allocated = λ z. free_here start p r.log q x.row_is ∙ ap not (x.puts (ap (λ g. g % 4) (sym lock_is) ∙ z));
          dirty = λ z. absurd (x.clean (ap (λ g. g % 4) (sym lock_is) ∙ z));
        })
        (λ ne. same_row start t u s.views (set s.views id w) b (left_row start t id q k n p x b ne)
        (holders_set means start s.views id v w b at adds.live_is (λ g. ap (λ rows. is_holding (get_or rows b newcomer).stage) adds.rows_are ∙ (ap (λ (z : Corner). is_holding z.stage) (get_or-set_other v.rows q b (sighted Idle n) newcomer ne) ∙ g)) (r.holder b)) (r.rows b there))

    -- one row fewer is held, and one publication may be paid for
    pub held_left : (held w.rows ≤ w.allowance) × (0 < w.allowance + total step_of w.made) × (w.allowance + total step_of w.made ≡ v.allowance + total step_of v.made)
    held_left = let f = r.seats id v at live in let wide = f.wide in let within : q < length v.rows = omega arith in let c : Corner = sighted Idle n in let rows = ap held adds.rows_are in let pay = adds.allowance_is in let m : total step_of w.made ≡ step_of p + total step_of v.made = ap (total step_of) adds.made_is in
        let h : held (set v.rows q c) + one (corner v q) ≡ held v.rows + 0 = held_set v.rows q c within in let y : one (corner v q) ≡ 1 = cond-true {A = ℕ} (is_holding (corner v q).stage) 1 0 holding in let enough = f.enough in
        let unit : step_of p ≤ 1 = ⊎_elim (λ g. let b = cond-true {A = ℕ} p.puts 1 0 g in omega arith) (λ g. let b = cond-false {A = ℕ} p.puts 1 0 g in omega arith) (cases_Bool p.puts) in
        let some_left = f.some_left in (omega arith, omega arith, omega arith)

  -- the view of a seat that leaves the row q at the lock word n, with the entry p and the allowance a
  abbrev pub left_view : View → ℕ → ℕ → ℕ → Change → View
  left_view v q n a p = record (turned v q (sighted Idle n)) { allowance = a; made = p ∷ v.made }

  module _ (s : St) (r : Rule s) (id q k n a : ℕ) (p : Change) (v : View) (at : get_elem? s.views id ≡ some v) (live : v.live ≡ true) (inside : lock_at q < length start)
      (x : Leaves start (here means start s r) id q k n p) (holding : is_holding (corner v q).stage ≡ true) (pays : a + step_of p ≡ v.allowance) (base_is : p.base ≡ v.base) (action_is : p.action ≡ v.action) (nz : q ≢ 0) where
    abbrev t1 : Moment
    t1 = here means start s r

    abbrev u1 : Moment
    u1 = after_entry t1 id q n p

    abbrev w1 : View
    w1 = left_view v q n a p

    adds1 : Adds v w1 q n a p
    adds1 = record { made_is = refl; allowance_is = refl; rows_are = refl; seats_is = refl; live_is = live; base_is = base_is }

    zero_is : SameRow start t1 u1 0
    zero_is = left_zero start t1 id q k n p x nz

    current_now : IsCurrent start u1 u1.log
    current_now = let f = r.seats id v at live in (
      (λ e. ⊎_elim (λ o. let z : p.action ≡ 0 = action_is ∙ o.0 in absurd (omega arith))
          (λ o. let h = holding_knows start t1 id 0 (corner v 0).stage o.1 (f.corners 0).knows in (ap (λ z. z % 4) zero_is.lock_is ∙ h.0, x.by_is ∙ h.1)) f.inside),
      each_map (λ (e : Change). e.action ≡ version t1.log 0 + 1 → (lock t1 0 % 4 ≡ 1) × (e.by ≡ t1.holder 0)) (λ (e : Change). e.action ≡ version u1.log 0 + 1 → (lock u1 0 % 4 ≡ 1) × (e.by ≡ u1.holder 0))
          (λ e g h. let y = g (h ∙ ap (λ z. z + 1) zero_is.version_is) in (ap (λ z. z % 4) zero_is.lock_is ∙ y.0, y.1)) r.log r.joint.current,
    )

    joint_now : Joint means start u1 s.homes (set s.views id w1)
    joint_now = joint_left s r id q k n a p v at live inside x holding pays w1 adds1 s.homes current_now
        (home_set means start t1 u1 s.homes s.homes s.views id v w1 at refl
        (λ lent home not_lent not_dirty. let g = home not_lent (λ z. not_dirty (ap (λ b. b % 4) zero_is.lock_is ∙ z)) in (g.0, g.1, subst (means g.0) (sym (left_labels start t1 id q k n p x nz)) g.2))
        (root_home means start t1 s.homes s.views r.joint))
        (lent_set means start s.homes s.views id v w1 at refl refl r.joint.empty)

    fits_now : Fits start u1 id w1
    fits_now = let f = r.seats id v at live in let wide = f.wide in let within : q < length v.rows = omega arith in let c : Corner = sighted Idle n in let later = later_left start t1 id q k n p x in let h = held_left s r id q k n a p v at live inside x holding pays w1 adds1 in
        let more = version_more p r.log 0 in let ended = f.ended in let still : is_holding (corner w1 0).stage ≡ is_holding (corner v 0).stage = ap (λ (z : Corner). is_holding z.stage) (get_or-set_other v.rows q 0 c newcomer (λ e. nz (sym e))) in
        fits_after start id t1 u1 v w1 q c f record { rows_are = refl; number_same = refl; start_same = refl; after_same = refl; base_same = refl; whole_before = λ z. sym h.2 ∙ z } within later (left_row start t1 id q k n p x) (own_left start t1 id q k n p x)
        h.1 h.0 (row_left s r id q k n a p v at live inside x holding pays w1 adds1 v.after (IsWhole w1) (omega arith))
        (inside_same start t1 u1 v w1 record { action_is = refl; after_is = refl; lent_is = refl; labels_is = refl; whole_then = λ z. h.2 ∙ z } zero_is.version_is (left_labels start t1 id q k n p x nz) still f.inside)
        (each_map (IsRead start t1) (IsRead start u1) later.read v.reads f.reads) (each_map (IsSight start t1) (IsSight start u1) later.sight v.sights f.sights) (each_map (IsEntered start t1) (IsEntered start u1) later.entered v.entered f.entered)

    pub left_rule : Rule record { words = set s.words (lock_at q) n; homes = s.homes; views = set s.views id w1 }
    left_rule = let f = r.seats id v at live in record {
      log = u1.log;
      had = u1.had;
      holder = r.holder;
      joint = joint_now;
      seats = seats_set means start t1 u1 s.homes s.views id v w1 r.joint at f.some_left (later_left start t1 id q k n p x) fits_now r.seats;
      rows = rows_left s r id q k n a p v at live inside x holding pays w1 adds1;
    }

  pub publish_keeps : (slots id : ℕ) (me : M) (q k : ℕ) (found put : List ℕ) (new : ℕ) → lock_at q < length start → 0 < q → me.0.live ≡ true → (corner me.0 q).stage ≡ Holding k found put → length put ≡ 16 → new ≡ 4 * (k + 1) + 2
      → Allows Rule slots id me (lock_at q) (λ _. new) (λ _. publishes (step slots (lock_at q) new 0 none) me new)
  publish_keeps slots id me q k found put new inside above live holding long is s r _ at _ = let v : View = me.0 in let t = here means start s r in let f = r.seats id v at live in let g = r.rows q inside in
      let known = subst (Knows start t id q) holding (f.corners q).knows in let word : lock t q ≡ 4 * k + 1 = known.0 in let count = g.counts in let at_k : version r.log q ≡ k = omega arith in let wide = r.joint.wide in
      let p = change_of v q (k + 1) true no_label found put in let n : ℕ = 4 * (k + 1) + 2 in let held_it : is_holding (corner v q).stage ≡ true = ap is_holding holding in let some_held = held_some v.rows q held_it in let enough = f.enough in
      let follows : Follows start r.log p = record { numbered = omega arith; found_wide = known.2; put_wide = long; found_is = known.4; inside = ⊎_elim (λ o. inl o.0) (λ o. inr o.0) f.inside; after_it = f.ended; first = λ e. absurd (omega arith) } in
      let x : Leaves start t id q k n p = record {
        mine = sym known.1;
        word = known.0;
        row_is = refl;
        by_is = f.number_is;
        version_is = refl;
        counts = omega arith;
        state = omega arith;
        clean = λ z. omega arith;
        frees = λ z. absurd (omega arith);
        puts = λ z. refl;
        content = λ i h. known.5 i (omega arith) ∙ sym (stands_put start p r.log q i refl refl);
        follows = follows;
        inside_it = omega arith;
        at_version = at_k;
      } in
      let w : View = published_at v q k found put in (
        w,
        keeps,
        tt,
        subst (λ z. Rule (stepped s (lock_at q) z id me.1 w keeps)) (sym is) (left_rule s r id q k n (v.allowance - 1) p v at live inside x held_it (omega arith) refl refl (λ e. omega arith)),
        λ b e. let same : q ≡ b = omega arith in subst (λ z. ◌≡◌ {A = M} (w, me.1) (published v z, me.1)) same
            (ap (λ (st : Stage). let y : M = (published_at v q (version_held st) (found_in st) (stored_in st), me.1) in y) (sym holding)),
      )

  pub free_keeps : (slots id : ℕ) (me : M) (q k : ℕ) (found : List ℕ) (new : ℕ) → lock_at q < length start → 0 < q → me.0.live ≡ true → (corner me.0 q).stage ≡ Holding k found [] → new ≡ 4 * k
      → Allows Rule slots id me (lock_at q) (λ _. new) (λ _. frees (step slots (lock_at q) new 0 none) me new)
  free_keeps slots id me q k found new inside above live holding is s r _ at _ = let v : View = me.0 in let t = here means start s r in let f = r.seats id v at live in let g = r.rows q inside in
      let known = subst (Knows start t id q) holding (f.corners q).knows in let word : lock t q ≡ 4 * k + 1 = known.0 in let count = g.counts in let at_k : version r.log q ≡ k = omega arith in let wide = r.joint.wide in
      let p = change_of v q k false no_label found found in let n : ℕ = 4 * k in let held_it : is_holding (corner v q).stage ≡ true = ap is_holding holding in
      let follows : Follows start r.log p = record { numbered = omega arith; found_wide = known.2; put_wide = known.2; found_is = known.4; inside = ⊎_elim (λ o. inl o.0) (λ o. inr o.0) f.inside; after_it = f.ended; first = λ e. absurd (omega arith) } in
      let x : Leaves start t id q k n p = record {
        mine = sym known.1;
        word = known.0;
        row_is = refl;
        by_is = f.number_is;
        version_is = omega arith;
        counts = omega arith;
        state = omega arith;
        clean = λ z. omega arith;
        frees = λ z. refl;
        puts = λ z. absurd (omega arith);
        content = λ i h. known.6 i (omega arith) h ∙ sym (stands_release start p r.log q i refl refl);
        follows = follows;
        inside_it = omega arith;
        at_version = at_k;
      } in
      let w : View = freed_at v q k found in (
        w,
        keeps,
        tt,
        subst (λ z. Rule (stepped s (lock_at q) z id me.1 w keeps)) (sym is) (left_rule s r id q k n v.allowance p v at live inside x held_it (omega arith) refl refl (λ e. omega arith)),
        λ b e. let same : q ≡ b = omega arith in subst (λ z. ◌≡◌ {A = M} (w, me.1) (freed v z, me.1)) same
            (ap (λ (st : Stage). let y : M = (freed_at v q (version_held st) (found_in st), me.1) in y) (sym holding)),
      )
