-- The steps that change no word: loads of a lock word and of a content word, and the step that tells a number.
use Rattle.std.proofs.Common.{◌≡◌, ℕ, eqb, subst, eq-eqb, ne_eqb, ◌+◌, ◌*◌, ◌/◌, ◌%◌, ◌<◌, ◌≤◌, ◌≢◌, ◌⊎◌, true, false, cond, List, [], ◌∷◌, ◌++◌, length, get_or, set, sym, refl, ap, ◌∙◌, inl, arith, length-append}
use Rattle.std.specs.Prelude.{Option, Some}
use Rattle.std.proofs.lemmas.Bool.{cond-false, cond-true}
use Rattle.pfs_lemmas.proofs.Options.{some_same}
use Rattle.pfs_lemmas.proofs.Bools.{true_not_false}
use mathlib.Core.Logic.{dite}
use mathlib.Core.Option.{some, none, some-injective}
use native.Mathlib.Decide.{ℕ_discrete}
use lib.ListN.{get_elem?, get_or-append}
use lib.Seq.{get_or_at}
use prog.Atomic.{either}
use Rattle.atomic_table.specs.Table.{State, Me, step, keeps, stepped, Allows}
use Rattle.atomic_table.proofs.Lists.{exchanged}
use Rattle.pfs_board.specs.declared.view.Change.{Change}
use Rattle.pfs_board.specs.declared.view.Corner.{Corner}
use Rattle.pfs_board.specs.declared.view.Finished.{Finished}
use Rattle.pfs_board.specs.declared.view.Label.{Label}
use Rattle.pfs_board.specs.declared.view.Sight.{Sight}
use Rattle.pfs_board.specs.declared.view.Stage.{Stage}
use Rattle.pfs_board.specs.declared.view.Stage.TheVariants.{Idle, Reading, Holding}
use Rattle.pfs_board.specs.declared.view.View.{View}
use Rattle.pfs_board.specs.History.{all_changes, total, Each, lock_at, word_at, version, stood, is_free, IsFreedAt, level, version_of, Floor}
use Rattle.pfs_board.specs.Knowledge.{newcomer, corner, is_holding, held, IsWhole, turned, sighted, begun, sight_of, read_of, version_read, words_read, version_held, found_in, peeked, restaged, tried, looked, finished_at, finished, weighed, told}
use Rattle.pfs_board.specs.Rule.{Moment, lock, now, Knows, IsRead, IsKnown, IsSeen, IsSight, IsLast, FitsRow, Fits, Ruled}
use Rattle.pfs_board.specs.Plays.{IsLook, tries, looks, finishes, gathers, recalls, weighs, tells}
use Rattle.pfs_board.proofs.HistoryFacts.{each_map, version_below_total, stood_now, below_all, level_all, freed_now, freed_last, never_opened, floor_new}
use Rattle.pfs_board.proofs.ViewFacts.{total_one, held_set, held_some, corners_set, one}
use Rattle.pfs_board.proofs.RuleSteps.{no_change, fits_after, inside_same, at_moment, whole_is_one, unmoved, same_everywhere}

pub hold_set : (rows : List Corner) (q : ℕ) (c : Corner) → q < length rows → is_holding c.stage ≡ is_holding (get_or rows q newcomer).stage → (p : ℕ) → is_holding (get_or (set rows q c) p newcomer).stage ≡ is_holding (get_or rows p newcomer).stage
hold_set rows q c inside e = corners_set (λ p d. is_holding d.stage ≡ is_holding (get_or rows p newcomer).stage) rows q c inside e (λ p n. refl)

pub begun_at : (n : ℕ) → n % 4 ≡ 2 → begun n ≡ Reading (n / 4) []
begun_at n e = cond-true (eqb (n % 4) 2) (Reading (n / 4) []) Idle (eq-eqb (n % 4) 2 e)

pub begun_not : (n : ℕ) → n % 4 ≢ 2 → begun n ≡ Idle
begun_not n e = cond-false (eqb (n % 4) 2) (Reading (n / 4) []) Idle (ne_eqb (n % 4) 2 e)

module _ {K : Type 0} (means : K → List Label → Type 0) (start : List ℕ) where
  abbrev St : Type 0
  St = State (Option K) View

  abbrev M : Type 0
  M = Me (Option K) View

  abbrev Rule : St → Type 0
  Rule = Ruled means start

  module _ (s : St) (r : Rule s) where
    abbrev pub here : Moment
    here = at_moment means start s r

    pub sub : (h : Change → ℕ) → total h r.had ≤ total h r.log
    sub h = let x = r.joint.root_is in let e = total_one (λ (v : View). total h v.made) s.views 0 x.0 x.1 in let c = r.joint.counted h in let m = ap (total h) x.2.made in omega arith

    pub known_now : (q after base : ℕ) → lock_at q < length start → after ≤ version r.log 0 → base ≤ length r.had → IsKnown start here q (lock here q) after base
    known_now q after base inside a b = let w = r.rows q inside in let e = w.counts in record {
      state = w.state;
      below = omega arith;
      opened = λ z. never_opened start r.log q r.joint.chain (omega arith) (w.allocated (omega arith));
      free = λ z. subst (λ k. IsFreedAt start r.log q k) (sym w.counts) (freed_now start r.log q r.joint.chain (w.free z));
      floor = subst (λ k. Floor version_of r.log r.had q k after base) (sym w.counts) (floor_new version_of r.log r.had q (version r.log q) after base a b sub (below_all start r.log q r.joint.chain));
    }

    pub last_now : (id q : ℕ) → lock_at q < length start → IsLast start here id q (Some (lock here q))
    last_now id q inside = let w = r.rows q inside in each_map (λ (p : Change). p.row ≡ q → version_of p ≤ version r.log q) (λ (p : Change). p.row ≡ q → p.by ≡ id → p.version ≤ lock here q / 4)
        (λ p g e _. let b = g e in let k = w.counts in omega arith) r.log (below_all start r.log q r.joint.chain)

    pub not_mine : (id q : ℕ) (v : View) → get_elem? s.views id ≡ some v → lock_at q < length start → is_holding (corner v q).stage ≡ false → lock here q % 4 ≡ 1 → r.holder q ≢ id
    not_mine id q v at inside not_held z e = let d = (r.rows q inside).dirty z in let same : d.0 ≡ v = some-injective _ _ (sym d.1 ∙ (ap (get_elem? s.views) e ∙ at)) in
        true_not_false (is_holding (corner v q).stage) (subst (λ (x : View). is_holding (corner x q).stage ≡ true) same d.3) not_held

    pub seen_now : (id q : ℕ) (v : View) → get_elem? s.views id ≡ some v → lock_at q < length start → is_holding (corner v q).stage ≡ false → v.after ≤ version r.log 0 → v.base ≤ length r.had → IsSeen start here id q (lock here q) v.after v.base
    seen_now id q v at inside not_held a b = record { known = known_now q v.after v.base inside a b; dirty = λ z. inl (refl, not_mine id q v at inside not_held z) }

    -- what a look shows
    pub look : (id q : ℕ) (v : View) → get_elem? s.views id ≡ some v → v.live ≡ true → lock_at q < length start → IsLook v (lock here q) q
    look id q v at live inside = let w = r.rows q inside in let f = r.seats id v at live in let e = w.counts in let c = (f.corners q).seen in
        let b = version_below_total r.log q in let o = total_one (λ (x : View). x.allowance) s.views id v at in let g = r.joint.allowed in record {
          state = w.state;
          later = omega arith;
          after = λ k fresh is. let d = ((f.corners q).known k fresh is).below in omega arith;
          room = omega arith;
          clean = λ whole not_held z. let d = w.dirty z in not_mine id q v at inside not_held z (sym (whole_is_one means start here s.homes s.views r.joint (r.holder q) id d.0 v d.1 (r.seats (r.holder q) d.0 d.1 d.2).some_left at whole));
          same = λ whole k fresh is. (f.corners q).alone whole k fresh is;
        }

    -- a corner whose lock word was seen just now
    pub sighted_row : (id q after base : ℕ) (whole : Type 0) (st : Stage) → lock_at q < length start → after ≤ version r.log 0 → base ≤ length r.had → Knows start here id q st
        → ((k : ℕ) (xs : List ℕ) → st ≡ Reading k xs → lock here q ≡ 4 * k + 2) → FitsRow start here id q after base whole (sighted st (lock here q))
    sighted_row id q after base whole st inside a b knows tied = let w = r.rows q inside in let e = w.counts in record {
      knows = knows;
      seen = omega arith;
      last = last_now id q inside;
      tied = λ k xs is. (refl, ap (λ (z : ℕ). Some z) (tied k xs is));
      known = λ n fresh is. subst (λ z. IsKnown start here q z after base) (some_same (lock here q) n is) (known_now q after base inside a b);
      alone = λ w n fresh is. some_same (lock here q) n is;
    }

    -- a look at the lock word of a row that the seat does not hold, after which it may know more reads and sights
    pub sees : (id q looks : ℕ) (cs : List (ℕ × Option K)) (v : View) (st : Stage) (reads : List Finished) (sights : List Sight) → get_elem? s.views id ≡ some v → v.live ≡ true → lock_at q < length start
        → is_holding (corner v q).stage ≡ false → is_holding st ≡ false → Knows start here id q st → ((k : ℕ) (xs : List ℕ) → st ≡ Reading k xs → lock here q ≡ 4 * k + 2)
        → Each (IsRead start here) reads → Each (IsSight start here) sights
        → Rule (stepped s (lock_at q) (get_or s.words (lock_at q) 0) id cs (record (turned v q (sighted st (lock here q))) { looks = looks; reads = reads; sights = sights }) keeps)
    sees id q looks cs v st reads sights at live inside not_held idle knows tied each_read each_sight =
        let f = r.seats id v at live in let n : ℕ = lock here q in let c : Corner = sighted st n in let w : View = record (turned v q c) { looks = looks; reads = reads; sights = sights } in
        let wide = f.wide in let within : q < length v.rows = omega arith in let same = hold_set v.rows q c within (idle ∙ sym not_held) in
        let h = held_set v.rows q c within in let x : one c ≡ 0 = cond-false {A = ℕ} (is_holding st) 1 0 idle in let y : one (corner v q) ≡ 0 = cond-false {A = ℕ} (is_holding (corner v q).stage) 1 0 not_held in
        let enough = f.enough in let fits : held (set v.rows q c) ≤ v.allowance = omega arith in
        unmoved means start s r (lock_at q) id cs v w at f.some_left record { sums = record { live_is = live; made_is = refl; allowance_is = refl; seats_is = refl }; lent_is = refl; moving_is = refl } (λ p g. same p ∙ g)
        (fits_after start id here here v w q c f record { rows_are = refl; number_same = refl; start_same = refl; after_same = refl; base_same = refl; whole_before = λ z. z } within (no_change start id here) (λ p _. same_everywhere means start here p)
        (λ p k _ l. l) f.some_left fits (sighted_row id q v.after v.base (IsWhole v) st inside f.ended f.split_at knows tied) (inside_same start here here v w record { action_is = refl; after_is = refl; lent_is = refl; labels_is = refl; whole_then = λ z. z } refl refl (same 0) f.inside) each_read each_sight f.entered)

    -- a row that was seen free is allocated again at a higher version alone
    pub again : (id q old : ℕ) (v : View) → get_elem? s.views id ≡ some v → v.live ≡ true → lock_at q < length start → (corner v q).fresh ≡ true → (corner v q).last ≡ Some old
        → old % 4 ≡ 0 → lock here q % 4 ≡ 2 → old / 4 < lock here q / 4
    again id q old v at live inside fresh last free now_there = let k = ((r.seats id v at live).corners q).known old fresh last in let w = r.rows q inside in let counts = w.counts in let below = k.below in
        dite (ℕ_discrete (old / 4) (version r.log q))
        (λ same. let is : is_free start r.log q ≡ true = freed_last start r.log q r.joint.chain (subst (IsFreedAt start r.log q) same (k.free free)) in let not : is_free start r.log q ≡ false = w.allocated now_there in let no : true ≡ false = sym is ∙ not in absurd (cc))
        (λ differ. omega arith)

    pub sight_now : (id q : ℕ) (v : View) → get_elem? s.views id ≡ some v → v.live ≡ true → lock_at q < length start → is_holding (corner v q).stage ≡ false → lock here q % 4 ≢ 2 → IsSight start here (sight_of v q (lock here q) (lock here q))
    sight_now id q v at live inside not_held unread = let f = r.seats id v at live in
        let seen : IsSeen start here v.number q (lock here q) v.after v.base = subst (λ z. IsSeen start here z q (lock here q) v.after v.base) (sym f.number_is) (seen_now id q v at inside not_held f.ended f.split_at) in
        record { one = seen; two = seen; shape = ((λ _. unread), (λ _. refl)); order = omega arith; again = λ x y. absurd (omega arith); between = λ differ _. absurd (differ refl) }

    -- a word that is not dirty, seen before as the last one, and now another
    pub sight_then : (id q k : ℕ) (v : View) → get_elem? s.views id ≡ some v → v.live ≡ true → lock_at q < length start → is_holding (corner v q).stage ≡ false → k % 4 ≢ 1 → lock here q ≢ k → (corner v q).fresh ≡ true → (corner v q).last ≡ Some k
        → IsSight start here (sight_of v q k (lock here q))
    sight_then id q k v at live inside not_held clean differs fresh last = let f = r.seats id v at live in let c = f.corners q in let known = c.known k fresh last in let w = r.rows q inside in let below = known.below in let counts = w.counts in record {
      order = omega arith;
      again = again id q k v at live inside fresh last;
      shape = ((λ z. absurd (differs z)), (λ z. absurd (clean z)));
      one = record { known = c.known k fresh last; dirty = λ z. absurd (clean z) };
      two = subst (λ z. IsSeen start here z q (lock here q) v.after v.base) (sym f.number_is) (seen_now id q v at inside not_held f.ended f.split_at);
      between = λ _ _. each_map (λ (p : Change). p.row ≡ q → p.by ≡ id → p.version ≤ k / 4) (λ (p : Change). p.row ≡ q → p.by ≡ v.number → p.puts ≡ true → (p.version ≤ k / 4) ⊎ (lock here q / 4 < p.version))
          (λ p g e b _. inl (g e (b ∙ f.number_is))) r.log (subst (IsLast start here id q) last c.last);
    }

  pub try_keeps : (slots id : ℕ) (me : M) (q : ℕ) → lock_at q < length start → me.0.live ≡ true → is_holding (corner me.0 q).stage ≡ false
      → Allows Rule slots id me (lock_at q) (λ n. n) (tries (step slots (lock_at q) 0 0 none) me)
  try_keeps slots id me q inside live not_held s r _ at _ = let v : View = me.0 in let t = here s r in let n : ℕ = lock t q in let w : View = tried v q n in (
    w,
    keeps,
    tt,
    dite (ℕ_discrete (n % 4) 1)
        (λ e. let same = cond-true (eqb (n % 4) 1) (sight_of v q n n ∷ v.sights) v.sights (eq-eqb (n % 4) 1 e) in
        sees s r id q (v.looks + 1) me.1 v Idle v.reads w.sights at live inside not_held refl tt (λ k xs is. cc) (r.seats id v at live).reads (subst (Each (IsSight start t)) (sym same) (sight_now s r id q v at live inside not_held (λ z. omega arith), (r.seats id v at live).sights)))
        (λ e. let same = cond-false (eqb (n % 4) 1) (sight_of v q n n ∷ v.sights) v.sights (ne_eqb (n % 4) 1 e) in
        sees s r id q (v.looks + 1) me.1 v Idle v.reads w.sights at live inside not_held refl tt (λ k xs is. cc) (r.seats id v at live).reads (subst (Each (IsSight start t)) (sym same) (r.seats id v at live).sights)),
    λ p e. let is : q ≡ p = omega arith in subst (λ z. (◌≡◌ {A = M} (w, me.1) (tried v z n, me.1)) × IsLook v n z) is (refl, look s r id q v at live inside),
  )

  pub look_keeps : (slots id : ℕ) (me : M) (q : ℕ) → lock_at q < length start → me.0.live ≡ true → is_holding (corner me.0 q).stage ≡ false
      → Allows Rule slots id me (lock_at q) (λ n. n) (looks (step slots (lock_at q) 0 0 none) me)
  look_keeps slots id me q inside live not_held s r _ at _ = let v : View = me.0 in let t = here s r in let n : ℕ = lock t q in let w : View = looked v q n in let f = r.seats id v at live in let counts = (r.rows q inside).counts in (
    w,
    keeps,
    tt,
    dite (ℕ_discrete (n % 4) 2)
        (λ e. let same = cond-true (eqb (n % 4) 2) v.sights (sight_of v q n n ∷ v.sights) (eq-eqb (n % 4) 2 e) in let start_is = begun_at n e in
        sees s r id q (v.looks + 1) me.1 v (begun n) v.reads w.sights at live inside not_held (ap is_holding start_is) (subst (Knows start t id q) (sym start_is) (omega arith, omega arith, λ _ i h. absurd (omega arith)))
        (λ k xs is. let g : k ≡ n / 4 = ap version_read (sym is ∙ start_is) in omega arith) f.reads (subst (Each (IsSight start t)) (sym same) f.sights))
        (λ e. let same = cond-false (eqb (n % 4) 2) v.sights (sight_of v q n n ∷ v.sights) (ne_eqb (n % 4) 2 e) in let start_is = begun_not n e in
        sees s r id q (v.looks + 1) me.1 v (begun n) v.reads w.sights at live inside not_held (ap is_holding start_is) (subst (Knows start t id q) (sym start_is) tt)
        (λ k xs is. let g : Reading k xs ≡ Idle = sym is ∙ start_is in cc) f.reads (subst (Each (IsSight start t)) (sym same) (sight_now s r id q v at live inside not_held e, f.sights))),
    λ p e. let is : q ≡ p = omega arith in subst (λ z. (◌≡◌ {A = M} (w, me.1) (looked v z n, me.1)) × IsLook v n z) is (refl, look s r id q v at live inside),
  )

  -- a read that found the row allocated at k and the words xs, and the lock word as it was
  read_now : (s : St) (r : Rule s) (id q k : ℕ) (xs : List ℕ) (v : View) → get_elem? s.views id ≡ some v → v.live ≡ true → lock_at q < length start → Knows start (here s r) id q (Reading k xs) → length xs ≡ 16 → lock (here s r) q ≡ 4 * k + 2
      → IsRead start (here s r) (read_of v q k xs)
  read_now s r id q k xs v at live inside knows wide is = let t = here s r in let f = r.seats id v at live in let w = r.rows q inside in let counts = w.counts in let at_k : version r.log q ≡ k = omega arith in record {
    below = knows.0;
    wide = wide;
    content_is = λ i h. knows.2 is i (omega arith) ∙ (w.clean (λ z. omega arith) i h ∙ (sym (stood_now start r.log q i r.joint.chain) ∙ ap (λ z. stood start r.log q z i) at_k));
    opened = λ none. never_opened start r.log q r.joint.chain (at_k ∙ none) (w.allocated (omega arith));
    floor = subst (λ z. Floor level r.log r.had q z v.after v.base) at_k (floor_new level r.log r.had q (version r.log q) v.after v.base f.ended f.split_at (sub s r) (level_all start r.log q r.joint.chain (w.allocated (omega arith))));
  }

  pub finish_keeps : (slots id : ℕ) (me : M) (q k : ℕ) (xs : List ℕ) → lock_at q < length start → me.0.live ≡ true → (corner me.0 q).stage ≡ Reading k xs → length xs ≡ 16
      → Allows Rule slots id me (lock_at q) (λ n. n) (finishes (step slots (lock_at q) 0 0 none) me)
  finish_keeps slots id me q k xs inside live reading wide s r _ at _ = let v : View = me.0 in let t = here s r in let n : ℕ = lock t q in let f = r.seats id v at live in let not_held : is_holding (corner v q).stage ≡ false = ap is_holding reading in
      let same : finished v q n ≡ finished_at v q n k xs = ap (λ z. finished_at v q n (version_read z) (words_read z)) reading in
      let w1 : View = record (turned v q (sighted Idle n)) { looks = v.looks + 1; reads = read_of v q k xs ∷ v.reads } in let w2 : View = record (turned v q (sighted Idle n)) { looks = v.looks + 1; sights = sight_of v q (4 * k + 2) n ∷ v.sights } in
      let tied = (f.corners q).tied k xs reading in (
        finished_at v q n k xs,
        keeps,
        tt,
        dite (ℕ_discrete n (4 * k + 2))
            (λ e. subst (λ (x : View). Rule (stepped s (lock_at q) (get_or s.words (lock_at q) 0) id me.1 x keeps)) (sym (cond-true (eqb n (4 * k + 2)) w1 w2 (eq-eqb n (4 * k + 2) e)))
            (sees s r id q (v.looks + 1) me.1 v Idle w1.reads v.sights at live inside not_held refl tt (λ k xs is. cc) (read_now s r id q k xs v at live inside (subst (Knows start t id q) reading (f.corners q).knows) wide e, f.reads) f.sights))
            (λ e. subst (λ (x : View). Rule (stepped s (lock_at q) (get_or s.words (lock_at q) 0) id me.1 x keeps)) (sym (cond-false (eqb n (4 * k + 2)) w1 w2 (ne_eqb n (4 * k + 2) e)))
            (sees s r id q (v.looks + 1) me.1 v Idle v.reads w2.sights at live inside not_held refl tt (λ k xs is. cc) f.reads (sight_then s r id q (4 * k + 2) v at live inside not_held (λ z. omega arith) e tied.0 tied.1, f.sights))),
        λ p e. let is : q ≡ p = omega arith in subst (λ z. (◌≡◌ {A = M} (finished_at v q n k xs, me.1) (finished v z n, me.1)) × IsLook v n z) is (ap (λ (x : View). (x, me.1)) (sym same), look s r id q v at live inside),
      )

  -- a step that changes a corner which stays as fresh as it was, and no word
  restages : (s : St) (r : Rule s) (i id q : ℕ) (cs : List (ℕ × Option K)) (v : View) (st : Stage) → get_elem? s.views id ≡ some v → v.live ≡ true → lock_at q < length start
      → is_holding st ≡ is_holding (corner v q).stage → Knows start (here s r) id q st → ((k : ℕ) (xs : List ℕ) → st ≡ Reading k xs → ((corner v q).fresh ≡ true) × ((corner v q).last ≡ Some (4 * k + 2)))
      → Rule (stepped s i (get_or s.words i 0) id cs (turned v q (restaged (corner v q) st)) keeps)
  restages s r i id q cs v st at live inside still knows tied = let t = here s r in let f = r.seats id v at live in let o = f.corners q in let c : Corner = restaged (corner v q) st in let w : View = turned v q c in
      let wide = f.wide in let within : q < length v.rows = omega arith in let same = hold_set v.rows q c within still in
      let h = held_set v.rows q c within in let x : one c ≡ one (corner v q) = ap (λ b. cond b 1 0) still in let enough = f.enough in let fits : held (set v.rows q c) ≤ v.allowance = omega arith in
      unmoved means start s r i id cs v w at f.some_left record { sums = record { live_is = live; made_is = refl; allowance_is = refl; seats_is = refl }; lent_is = refl; moving_is = refl } (λ p g. same p ∙ g)
      (fits_after start id t t v w q c f record { rows_are = refl; number_same = refl; start_same = refl; after_same = refl; base_same = refl; whole_before = λ z. z } within (no_change start id t) (λ p _. same_everywhere means start t p)
      (λ p k _ l. l) f.some_left fits record { knows = knows; seen = o.seen; last = o.last; tied = tied; known = o.known; alone = o.alone } (inside_same start t t v w record { action_is = refl; after_is = refl; lent_is = refl; labels_is = refl; whole_then = λ z. z } refl refl (same 0) f.inside) f.reads f.sights f.entered)

  one_more : (xs : List ℕ) (i n : ℕ) (word : ℕ → ℕ) → length xs ≡ i → word i ≡ n → ((j : ℕ) → j < length xs → get_or xs j 0 ≡ word j) → (j : ℕ) → j < length (xs ++ n ∷ []) → get_or (xs ++ n ∷ []) j 0 ≡ word j
  one_more xs i n word wide is before j h = let l = length-append xs (n ∷ []) in dite (ℕ_discrete j i)
      (λ e. ap (λ z. get_or (xs ++ n ∷ []) z 0) e ∙ (get_or_at xs n [] 0 i wide ∙ (sym is ∙ ap word (sym e))))
      (λ other. let low : j < length xs = omega arith in get_or-append xs (n ∷ []) 0 j low ∙ before j low)

  pub gather_keeps : (slots id : ℕ) (me : M) (q i k : ℕ) (xs : List ℕ) → lock_at q < length start → i < 16 → me.0.live ≡ true → (corner me.0 q).stage ≡ Reading k xs → length xs ≡ i
      → Allows Rule slots id me (word_at q i) (λ n. n) (gathers (step slots (word_at q i) 0 0 none) me)
  gather_keeps slots id me q i k xs inside low live reading wide s r _ at _ = let v : View = me.0 in let t = here s r in let n : ℕ = now t q i in let f = r.seats id v at live in let o = f.corners q in
      let known = subst (Knows start t id q) reading o.knows in let next : peeked (corner v q).stage n ≡ Reading k (xs ++ n ∷ []) = ap (λ z. peeked z n) reading in let l = length-append xs (n ∷ []) in
      let w : View = turned v q (restaged (corner v q) (peeked (corner v q).stage n)) in (
        w,
        keeps,
        tt,
        restages s r (word_at q i) id q me.1 v (peeked (corner v q).stage n) at live inside (ap is_holding next ∙ sym (ap is_holding reading))
            (subst (Knows start t id q) (sym next) (known.0, omega arith, λ is. one_more xs i n (now t q) wide refl (λ j h. known.2 is j h)))
            (λ k' xs' is. let g : k ≡ k' = ap version_read (sym next ∙ is) in subst (λ z. ((corner v q).fresh ≡ true) × ((corner v q).last ≡ Some (4 * z + 2))) g (o.tied k xs reading)),
        λ p j e h. let is : q ≡ p = omega arith in subst (λ z. ◌≡◌ {A = M} (w, me.1) (turned v z (restaged (corner v z) (peeked (corner v z).stage n)), me.1)) is refl,
      )

  counted_fits : (s : St) (r : Rule s) (id looks : ℕ) (said : List ℕ) (v : View) → Fits start (here s r) id v → Fits start (here s r) id (record v { looks = looks; said = said })
  counted_fits s r id looks said v f = record {
    number_is = f.number_is;
    start_is = f.start_is;
    wide = f.wide;
    some_left = f.some_left;
    enough = f.enough;
    corners = f.corners;
    inside = f.inside;
    ended = f.ended;
    split_at = f.split_at;
    reads = f.reads;
    sights = f.sights;
    entered = f.entered;
  }

  -- a step that tells nothing of a row
  unseen : (s : St) (r : Rule s) (i id looks : ℕ) (said : List ℕ) (cs : List (ℕ × Option K)) (v : View) → get_elem? s.views id ≡ some v → v.live ≡ true → Rule (stepped s i (get_or s.words i 0) id cs (record v { looks = looks; said = said }) keeps)
  unseen s r i id looks said cs v at live = let f = r.seats id v at live in
      unmoved means start s r i id cs v (record v { looks = looks; said = said }) at f.some_left record { sums = record { live_is = live; made_is = refl; allowance_is = refl; seats_is = refl }; lent_is = refl; moving_is = refl } (λ p g. g) (counted_fits s r id looks said v f)

  pub recall_keeps : (slots id : ℕ) (me : M) (q i k : ℕ) (found : List ℕ) → lock_at q < length start → i < 16 → me.0.live ≡ true → (corner me.0 q).stage ≡ Holding k found []
      → Allows Rule slots id me (word_at q i) (λ n. n) (recalls (step slots (word_at q i) 0 0 none) me)
  recall_keeps slots id me q i k found inside low live holding s r _ at _ = let v : View = me.0 in let t = here s r in let n : ℕ = now t q i in let f = r.seats id v at live in
      let known = subst (Knows start t id q) holding (f.corners q).knows in let value : n ≡ get_or found i 0 = known.6 i (omega arith) low ∙ sym (known.4 i low) in (
        v,
        keeps,
        tt,
        unseen s r (word_at q i) id v.looks v.said me.1 v at live,
        λ p j e h. let is : q ≡ p = omega arith in let too : i ≡ j = omega arith in
            (refl, value ∙ (ap (λ z. get_or (found_in z) i 0) (sym holding) ∙ (λ x. get_or (found_in (corner v (is x)).stage) (too x) 0))),
      )

  pub weigh_keeps : (slots id : ℕ) (me : M) (q k : ℕ) (found put : List ℕ) → lock_at q < length start → me.0.live ≡ true → (corner me.0 q).stage ≡ Holding k found put
      → Allows Rule slots id me (lock_at q) (λ n. n) (weighs (step slots (lock_at q) 0 0 none) me)
  weigh_keeps slots id me q k found put inside live holding s r _ at _ = let v : View = me.0 in let t = here s r in let n : ℕ = lock t q in let f = r.seats id v at live in
      let known = subst (Knows start t id q) holding (f.corners q).knows in let seen = look s r id q v at live inside in let room = seen.room in let later = seen.later in let is_now : n ≡ 4 * k + 1 = known.0 in
      let same : k ≡ version_held (corner v q).stage = ap version_held (sym holding) in let fits : k + v.allowance ≤ all_changes = omega arith in let some_held = held_some v.rows q (ap is_holding holding) in let enough = f.enough in let some_left : 0 < v.allowance = omega arith in let low : (corner v q).seen ≤ k = omega arith in (
        weighed v,
        keeps,
        tt,
        unseen s r (lock_at q) id (v.looks + 1) v.said me.1 v at live,
        (
          refl,
          λ p e. let is : q ≡ p = omega arith in
              subst (λ z. (n ≡ 4 * version_held (corner v z).stage + 1) × (version_held (corner v z).stage + v.allowance ≤ all_changes) × (0 < v.allowance) × ((corner v z).seen ≤ version_held (corner v z).stage)) is
              (subst (λ z. (n ≡ 4 * z + 1) × (z + v.allowance ≤ all_changes) × (0 < v.allowance) × ((corner v q).seen ≤ z)) same (is_now, fits, some_left, low)),
        ),
      )

  -- an exchange of a word for itself tells the number
  pub tell_keeps : (slots id : ℕ) (me : M) (a : ℕ) → me.0.live ≡ true → Allows Rule slots id me 0 (λ n. either (eqb n a) a n) (tells (step slots 0 a a none) me)
  tell_keeps slots id me a live s r _ at _ = let v : View = me.0 in let n : ℕ = get_or s.words 0 0 in
      let same : either (eqb n a) a n ≡ n = exchanged n a a (λ z. z ≡ n) (λ e. sym e) (λ e. refl) in (
        told v a,
        keeps,
        tt,
        subst (λ z. Rule (stepped s 0 z id me.1 (told v a) keeps)) (sym same) (unseen s r 0 id (v.looks + 1) (a ∷ v.said) me.1 v at live),
        refl,
      )
