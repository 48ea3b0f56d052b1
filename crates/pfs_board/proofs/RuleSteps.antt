-- What a step that changes no word, or the words of one row, leaves of the rule.
use Rattle.std.proofs.Common.{◌≡◌, ℕ, subst, ◌+◌, ◌*◌, ◌/◌, ◌%◌, ◌<◌, ◌≤◌, ◌≢◌, Bool, true, false, List, length, get_or, set, sym, refl, ap, ◌∙◌, inl, inr, ⊎_elim, arith, length-set}
use Rattle.std.specs.Prelude.{Option, None}
use Rattle.pfs_lemmas.proofs.Bools.{true_not_false}
use mathlib.Core.Logic.{dite}
use mathlib.Core.Option.{some, some-injective}
use mathlib.Core.Option as maybe
use native.Mathlib.Decide.{ℕ_discrete}
use lib.ListN.{get_elem?}
use lib.Seq.{set-get_or}
use Rattle.atomic_table.specs.Table.{State, keeps, stepped}
use Rattle.atomic_table.proofs.Lists.{at_set, set_here, set_else}
use Rattle.pfs_board.specs.declared.view.Change.{Change}
use Rattle.pfs_board.specs.declared.view.Corner.{Corner}
use Rattle.pfs_board.specs.declared.view.Entered.{Entered}
use Rattle.pfs_board.specs.declared.view.Finished.{Finished}
use Rattle.pfs_board.specs.declared.view.Label.{Label}
use Rattle.pfs_board.specs.declared.view.Sight.{Sight}
use Rattle.pfs_board.specs.declared.view.Stage.{Stage}
use Rattle.pfs_board.specs.declared.view.Stage.TheVariants.{Idle, Reading, Holding}
use Rattle.pfs_board.specs.declared.view.View.{View}
use Rattle.pfs_board.specs.History.{total, Each, lock_at, step_of, version, stands, is_free, labels_of}
use Rattle.pfs_board.specs.Knowledge.{newcomer, corner, is_holding, held, IsWhole, spent}
use Rattle.pfs_board.specs.Rule.{Moment, moment, lock, now, Knows, IsRead, IsKnown, IsSight, IsEntered, IsLast, IsInside, FitsRow, Fits, IsRow, IsRoot, IsHome, IsCurrent, Joint, Ruled}
use Rattle.pfs_board.proofs.HistoryFacts.{each_map}
use Rattle.pfs_board.proofs.ViewFacts.{total_set, total_two, total_plus, at_below, corners_set}

module _ (start : List ℕ) where
  -- nothing of a row changed
  pub record SameRow (t t' : Moment) (r : ℕ) : Type 0 where
    pub lock_is : lock t' r ≡ lock t r
    pub now_is : (i : ℕ) → i < 16 → now t' r i ≡ now t r i
    pub version_is : version t'.log r ≡ version t.log r
    pub stands_is : (i : ℕ) → stands start t'.log r i ≡ stands start t.log r i
    pub free_is : is_free start t'.log r ≡ is_free start t.log r
    pub holder_is : t'.holder r ≡ t.holder r

  pub same_knows : (t t' : Moment) (r seat : ℕ) (st : Stage) → SameRow t t' r → Knows start t seat r st → Knows start t' seat r st
  same_knows t t' r seat Idle s k = tt
  same_knows t t' r seat (Reading v xs) s k = let e = s.version_is in let below = k.0 in let short = k.1 in
      (omega arith, k.1, λ is i h. k.2 (sym s.lock_is ∙ is) i h ∙ sym (s.now_is i (omega arith)))
  same_knows t t' r seat (Holding v found put) s k = let short = k.3 in (
    s.lock_is ∙ k.0,
    k.1 ∙ sym s.holder_is,
    k.2,
    k.3,
    (λ i h. k.4 i h ∙ sym (s.stands_is i)),
    (λ i h. s.now_is i (omega arith) ∙ k.5 i h),
    (λ i l h. s.now_is i h ∙ (k.6 i l h ∙ sym (s.stands_is i))),
  )

  pub same_row : (t t' : Moment) (views views' : List View) (r : ℕ) → SameRow t t' r
      → ((v : View) → get_elem? views (t.holder r) ≡ some v → v.live ≡ true → is_holding (corner v r).stage ≡ true → (w : View) × (get_elem? views' (t.holder r) ≡ some w) × (w.live ≡ true) × (is_holding (corner w r).stage ≡ true))
      → IsRow start t views r → IsRow start t' views' r
  same_row t t' views views' r s holds w = let e = s.lock_is in let f = w.counts in let g = w.state in record {
    counts = ap (λ z. z / 4) s.lock_is ∙ (w.counts ∙ sym s.version_is);
    state = subst (λ (z : ℕ). z % 4 < 3) (sym s.lock_is) w.state;
    clean = λ n i h. s.now_is i h ∙ (w.clean (λ d. n (ap (λ z. z % 4) s.lock_is ∙ d)) i h ∙ sym (s.stands_is i));
    free = λ z. s.free_is ∙ w.free (sym (ap (λ z. z % 4) s.lock_is) ∙ z);
    allocated = λ z. s.free_is ∙ w.allocated (sym (ap (λ z. z % 4) s.lock_is) ∙ z);
    dirty = λ z. let d = w.dirty (sym (ap (λ z. z % 4) s.lock_is) ∙ z) in let n = holds d.0 d.1 d.2 d.3 in (n.0, ap (get_elem? views') s.holder_is ∙ n.1, n.2, n.3);
  }

  -- what a step of the seat `me` leaves of what another seat knows
  pub record Later (me : ℕ) (t t' : Moment) : Type 0 where
    pub knows : (j r : ℕ) (st : Stage) → j ≢ me → Knows start t j r st → Knows start t' j r st
    pub version_up : (r : ℕ) → version t.log r ≤ version t'.log r
    pub last : (j r : ℕ) (k : Option ℕ) → j ≢ me → IsLast start t j r k → IsLast start t' j r k
    pub inside : (j : ℕ) (v : View) → j ≢ me → (¬ (IsWhole v)) → Knows start t j 0 (corner v 0).stage → IsInside start t v → IsInside start t' v
    pub known : (row n after base : ℕ) → IsKnown start t row n after base → IsKnown start t' row n after base
    pub read : (f : Finished) → IsRead start t f → IsRead start t' f
    pub sight : (x : Sight) → IsSight start t x → IsSight start t' x
    pub entered : (e : Entered) → IsEntered start t e → IsEntered start t' e
    pub had_more : length t.had ≤ length t'.had

  pub others_fit : (me : ℕ) (t t' : Moment) (j : ℕ) (v : View) → Later me t t' → j ≢ me → (¬ (IsWhole v)) → Fits start t j v → Fits start t' j v
  others_fit me t t' j v l n not_whole f = let b = f.split_at in let m = l.had_more in let z = l.version_up 0 in let a = f.ended in record {
    number_is = f.number_is;
    start_is = f.start_is;
    wide = f.wide;
    some_left = f.some_left;
    enough = f.enough;
    corners = λ r. let c = f.corners r in let s = c.seen in let u = l.version_up r in record {
      knows = l.knows j r (corner v r).stage n c.knows;
      seen = omega arith;
      last = l.last j r (corner v r).last n c.last;
      tied = c.tied;
      known = λ k fresh last. l.known r k v.after v.base (c.known k fresh last);
      alone = λ w. absurd (not_whole w);
    };
    inside = l.inside j v n not_whole (f.corners 0).knows f.inside;
    ended = omega arith;
    split_at = omega arith;
    reads = each_map (IsRead start t) (IsRead start t') l.read v.reads f.reads;
    sights = each_map (IsSight start t) (IsSight start t') l.sight v.sights f.sights;
    entered = each_map (IsEntered start t) (IsEntered start t') l.entered v.entered f.entered;
  }

  pub no_change : (me : ℕ) (t : Moment) → Later me t t
  no_change me t = record {
    knows = λ j r st n k. k;
    version_up = λ r. omega arith;
    last = λ j r k n l. l;
    inside = λ j v n w k i. i;
    known = λ row n after base k. k;
    read = λ f r. r;
    sight = λ x s. s;
    entered = λ e k. k;
    had_more = omega arith;
  }

  -- what the seat that steps knows of the rows that its step leaves
  pub own_row : (me : ℕ) (t t' : Moment) (r after base : ℕ) (whole whole' : Type 0) (c : Corner) → Later me t t' → SameRow t t' r → (IsLast start t me r c.last → IsLast start t' me r c.last) → (whole' → whole)
      → FitsRow start t me r after base whole c → FitsRow start t' me r after base whole' c
  own_row me t t' r after base whole whole' c later s last back f = let e = f.seen in let v = s.version_is in record {
    knows = same_knows t t' r me c.stage s f.knows;
    seen = omega arith;
    last = last f.last;
    tied = f.tied;
    known = λ n fresh is. later.known r n after base (f.known n fresh is);
    alone = λ w n fresh is. s.lock_is ∙ f.alone (back w) n fresh is;
  }

  -- the view w of the seat that steps, whose corner q alone differs from what v had
  pub record Turns (v w : View) (q : ℕ) (c : Corner) : Type 0 where
    pub rows_are : w.rows ≡ set v.rows q c
    pub number_same : w.number ≡ v.number
    pub start_same : w.start ≡ v.start
    pub after_same : w.after ≡ v.after
    pub base_same : w.base ≡ v.base
    pub whole_before : IsWhole w → IsWhole v

  pub fits_after : (me : ℕ) (t t' : Moment) (v w : View) (q : ℕ) (c : Corner) → Fits start t me v → Turns v w q c → q < length v.rows → Later me t t' → ((r : ℕ) → r ≢ q → SameRow t t' r)
      → ((r : ℕ) (k : Option ℕ) → r ≢ q → IsLast start t me r k → IsLast start t' me r k) → 0 < w.allowance + total step_of w.made → held w.rows ≤ w.allowance → FitsRow start t' me q w.after w.base (IsWhole w) c
      → IsInside start t' w → Each (IsRead start t') w.reads → Each (IsSight start t') w.sights → Each (IsEntered start t') w.entered → Fits start t' me w
  fits_after me t t' v w q c f turns inside_it later others last some_left enough here inside reads sights entered = let b = f.split_at in let m = later.had_more in let z = later.version_up 0 in let a = f.ended in let x = turns.after_same in let y = turns.base_same in record {
    number_is = turns.number_same ∙ f.number_is;
    start_is = turns.start_same ∙ f.start_is;
    wide = ap (λ rows. 17 * length rows) turns.rows_are ∙ (ap (λ n. 17 * n) (length-set v.rows q c) ∙ f.wide);
    some_left = some_left;
    enough = enough;
    corners = subst (λ rows. (r : ℕ) → FitsRow start t' me r w.after w.base (IsWhole w) (get_or rows r newcomer)) (sym turns.rows_are)
        (corners_set (λ r d. FitsRow start t' me r w.after w.base (IsWhole w) d) v.rows q c inside_it here
        (λ r n. own_row me t t' r w.after w.base (IsWhole v) (IsWhole w) (corner v r) later (others r n) (last r (corner v r).last n) turns.whole_before
        (subst (λ (g : ℕ × ℕ). FitsRow start t me r g.0 g.1 (IsWhole v) (corner v r)) (λ i. (sym turns.after_same i, sym turns.base_same i)) (f.corners r))));
    inside = inside;
    ended = omega arith;
    split_at = omega arith;
    reads = reads;
    sights = sights;
    entered = entered;
  }

  -- where an action and the value are stays
  pub record SameAction (v w : View) : Type 0 where
    pub action_is : w.action ≡ v.action
    pub after_is : w.after ≡ v.after
    pub lent_is : w.lent ≡ v.lent
    pub labels_is : w.labels ≡ v.labels
    pub whole_then : IsWhole v → IsWhole w

  pub inside_same : (t t' : Moment) (v w : View) → SameAction v w → version t'.log 0 ≡ version t.log 0 → labels_of t'.log ≡ labels_of t.log → is_holding (corner w 0).stage ≡ is_holding (corner v 0).stage → IsInside start t v → IsInside start t' w
  inside_same t t' v w a n l h i = ⊎_elim
      (λ x. inl (a.action_is ∙ x.0, h ∙ x.1, λ out. let y = x.2 (sym a.lent_is ∙ out) in (a.whole_then y.0, a.labels_is ∙ (y.1 ∙ sym l))))
      (λ x. inr (a.action_is ∙ (x.0 ∙ ap (λ z. z + 1) (sym n)), h ∙ x.1, a.lent_is ∙ x.2, a.labels_is ∙ (x.3 ∙ sym l), a.after_is ∙ (x.4 ∙ sym n))) i

module _ {K : Type 0} (means : K → List Label → Type 0) (start : List ℕ) where
  abbrev St : Type 0
  St = State (Option K) View

  abbrev pub at_moment : (s : St) → Ruled means start s → Moment
  at_moment s r = moment s r.log r.had r.holder

  -- a seat that has the whole sum is the only one that may publish
  pub whole_is_one : (t : Moment) (homes : List (maybe.Option (Option K))) (views : List View) (o : Joint means start t homes views) (i j : ℕ) (v u : View)
      → get_elem? views i ≡ some v → 0 < v.allowance + total step_of v.made → get_elem? views j ≡ some u → IsWhole u → j ≡ i
  whole_is_one t homes views o i j v u at some_left there whole = dite (ℕ_discrete j i) (λ e. e)
      (λ n. let a = total_two (λ (x : View). x.allowance + total step_of x.made) views j i u v n there at in let b = total_plus (λ (x : View). x.allowance) (λ (x : View). total step_of x.made) views in
      let s = o.counted step_of in let w = o.allowed in absurd (omega arith))

  -- what the sums see of a view stays
  pub record Sums (v w : View) : Type 0 where
    pub live_is : w.live ≡ true
    pub made_is : w.made ≡ v.made
    pub allowance_is : w.allowance ≡ v.allowance
    pub seats_is : w.seats ≡ v.seats

  -- and where the value is
  pub record Alike (v w : View) : Type 0 where
    pub sums : Sums v w
    pub lent_is : w.lent ≡ v.lent
    pub moving_is : w.moving ≡ v.moving

  pub root_home : (t : Moment) (homes : List (maybe.Option (Option K))) (views : List View) → Joint means start t homes views → (u : View) → get_elem? views 0 ≡ some u → IsHome start t means homes u.lent
  root_home t homes views o u at = let r = o.root_is in subst (λ (x : View). IsHome start t means homes x.lent) (some-injective _ _ (sym r.1 ∙ at)) r.3

  pub home_set : (t t' : Moment) (homes homes' : List (maybe.Option (Option K))) (views : List View) (id : ℕ) (v w : View) → get_elem? views id ≡ some v → w.lent ≡ v.lent
      → ((lent : Bool) → IsHome start t means homes lent → IsHome start t' means homes' lent) → ((u : View) → get_elem? views 0 ≡ some u → IsHome start t means homes u.lent)
      → (u : View) → get_elem? (set views id w) 0 ≡ some u → IsHome start t' means homes' u.lent
  home_set t t' homes homes' views id v w at lent_is home old u there = ⊎_elim
      (λ (h : (0 ≡ id) × (w ≡ u)). subst (λ b. IsHome start t' means homes' b) (sym lent_is ∙ ap (λ (x : View). x.lent) h.1) (home v.lent (old v (ap (get_elem? views) h.0 ∙ at))))
      (λ (h : (0 ≢ id) × (get_elem? views 0 ≡ some u)). home u.lent (old u h.1))
      (at_set views id 0 w u there)

  pub root_set : (t t' : Moment) (homes' : List (maybe.Option (Option K))) (views : List View) (id : ℕ) (v w : View) → get_elem? views id ≡ some v
      → ((u : View) → get_elem? views 0 ≡ some u → 0 ≢ id → IsRoot start t (length views) u → IsRoot start t' (length views) u)
      → (0 ≡ id → IsRoot start t (length views) v → IsRoot start t' (length views) w)
      → ((u : View) → get_elem? (set views id w) 0 ≡ some u → IsHome start t' means homes' u.lent)
      → (u : View) → get_elem? views 0 ≡ some u → IsRoot start t (length views) u
      → (u : View) × (get_elem? (set views id w) 0 ≡ some u) × IsRoot start t' (length (set views id w)) u × IsHome start t' means homes' u.lent
  root_set t t' homes' views id v w at other own home u there root = dite (ℕ_discrete 0 id)
      (λ e. let same : u ≡ v = some-injective _ _ (sym there ∙ (ap (get_elem? views) e ∙ at)) in let here : get_elem? (set views id w) 0 ≡ some w = ap (get_elem? (set views id w)) e ∙ set_here views id w (at_below views id v at) in (
        w,
        here,
        subst (λ n. IsRoot start t' n w) (sym (length-set views id w)) (own e (subst (IsRoot start t (length views)) same root)),
        home w here,
      ))
      (λ n. let here : get_elem? (set views id w) 0 ≡ some u = set_else views id 0 w n ∙ there in (
        u,
        here,
        subst (λ c. IsRoot start t' c u) (sym (length-set views id w)) (other u there n root),
        home u here,
      ))

  pub spent_set : (views : List View) (id : ℕ) (w : View) → w.live ≡ true → ((j : ℕ) (u : View) → get_elem? views j ≡ some u → u.live ≡ false → u ≡ spent)
      → (j : ℕ) (u : View) → get_elem? (set views id w) j ≡ some u → u.live ≡ false → u ≡ spent
  spent_set views id w live old j u at dead = ⊎_elim (λ (h : (j ≡ id) × (w ≡ u)). absurd (true_not_false u.live (ap (λ (x : View). x.live) (sym h.1) ∙ live) dead)) (λ (h : (j ≢ id) × (get_elem? views j ≡ some u)). old j u h.1 dead) (at_set views id j w u at)

  pub sums_same : (f : View → ℕ) (views : List View) (id : ℕ) (v w : View) → get_elem? views id ≡ some v → f w ≡ f v → total f (set views id w) ≡ total f views
  sums_same f views id v w at e = let s = total_set f views id v w at in omega arith

  pub lent_set : (homes : List (maybe.Option (Option K))) (views : List View) (id : ℕ) (v w : View) → get_elem? views id ≡ some v → w.lent ≡ v.lent → w.moving ≡ v.moving
      → ((j : ℕ) (u : View) → get_elem? views j ≡ some u → u.lent ≡ true → u.moving ≡ false → get_elem? homes 0 ≡ some (some None))
      → (j : ℕ) (u : View) → get_elem? (set views id w) j ≡ some u → u.lent ≡ true → u.moving ≡ false → get_elem? homes 0 ≡ some (some None)
  lent_set homes views id v w at same still old j u there lent rests = ⊎_elim
      (λ (h : (j ≡ id) × (w ≡ u)). old id v at (sym same ∙ (ap (λ (x : View). x.lent) h.1 ∙ lent)) (sym still ∙ (ap (λ (x : View). x.moving) h.1 ∙ rests)))
      (λ (h : (j ≢ id) × (get_elem? views j ≡ some u)). old j u h.1 lent rests)
      (at_set views id j w u there)

  pub joint_on : (t : Moment) (ws : List ℕ) (hd : ℕ → ℕ) (homes homes' : List (maybe.Option (Option K))) (views : List View) (id : ℕ) (v w : View) → get_elem? views id ≡ some v → Sums v w
      → length ws ≡ length t.words → IsCurrent start (record { words = ws; log = t.log; had = t.had; holder = hd }) t.log
      → ((u : View) → get_elem? (set views id w) 0 ≡ some u → IsHome start (record { words = ws; log = t.log; had = t.had; holder = hd }) means homes' u.lent)
      → ((j : ℕ) (u : View) → get_elem? (set views id w) j ≡ some u → u.lent ≡ true → u.moving ≡ false → get_elem? homes' 0 ≡ some (some None))
      → Joint means start t homes views → Joint means start (record { words = ws; log = t.log; had = t.had; holder = hd }) homes' (set views id w)
  joint_on t ws hd homes homes' views id v w at a wide current home empty o = let t' : Moment = record { words = ws; log = t.log; had = t.had; holder = hd } in let root = o.root_is in record {
    wide = wide ∙ o.wide;
    chain = o.chain;
    counted = λ h. sums_same (λ (x : View). total h x.made) views id v w at (ap (total h) a.made_is) ∙ o.counted h;
    allowed = ap (λ z. z + total step_of t.log) (sums_same (λ (x : View). x.allowance) views id v w at a.allowance_is) ∙ o.allowed;
    makers = subst (λ n. Each (λ (p : Change). p.by < n) t.log) (sym (length-set views id w)) o.makers;
    floors = o.floors;
    current = current;
    root_is = root_set t t' homes' views id v w at (λ u at0 n r. record { here = r.here; seats = r.seats; made = r.made })
        (λ _ r. record { here = a.live_is; seats = r.seats ∙ ap (λ z. z + 1) (sym a.seats_is); made = a.made_is ∙ r.made }) home root.0 root.1 root.2;
    empty = empty;
    spent_is = spent_set views id w a.live_is o.spent_is;
  }

  -- a live seat with the view w now, whose other seats fit as before
  pub seats_set : (t t' : Moment) (homes : List (maybe.Option (Option K))) (views : List View) (id : ℕ) (v w : View) → Joint means start t homes views → get_elem? views id ≡ some v → 0 < v.allowance + total step_of v.made → Later start id t t' → Fits start t' id w
      → ((j : ℕ) (u : View) → get_elem? views j ≡ some u → u.live ≡ true → Fits start t j u)
      → (j : ℕ) (u : View) → get_elem? (set views id w) j ≡ some u → u.live ≡ true → Fits start t' j u
  seats_set t t' homes views id v w o at some_left later mine old j u there live = ⊎_elim
      (λ (h : (j ≡ id) × (w ≡ u)). subst (λ (z : ℕ × View). Fits start t' z.0 z.1) (λ i. (sym h.0 i, h.1 i)) mine)
      (λ (h : (j ≢ id) × (get_elem? views j ≡ some u)). others_fit start id t t' j u later h.0 (λ whole. h.0 (whole_is_one t homes views o id j v u at some_left h.1 whole)) (old j u h.1 live))
      (at_set views id j w u there)

  -- a step that changes words and no history, after which the value is where it is said to be
  pub moved_on : (s : St) (r : Ruled means start s) (ws : List ℕ) (hd : ℕ → ℕ) (homes' : List (maybe.Option (Option K))) (id : ℕ) (v w : View) → get_elem? s.views id ≡ some v → 0 < v.allowance + total step_of v.made → Sums v w
      → length ws ≡ length s.words → IsCurrent start (record { words = ws; log = r.log; had = r.had; holder = hd }) r.log
      → ((u : View) → get_elem? (set s.views id w) 0 ≡ some u → IsHome start (record { words = ws; log = r.log; had = r.had; holder = hd }) means homes' u.lent)
      → ((j : ℕ) (u : View) → get_elem? (set s.views id w) j ≡ some u → u.lent ≡ true → u.moving ≡ false → get_elem? homes' 0 ≡ some (some None))
      → Later start id (at_moment s r) (record { words = ws; log = r.log; had = r.had; holder = hd })
      → Fits start (record { words = ws; log = r.log; had = r.had; holder = hd }) id w
      → ((q : ℕ) → lock_at q < length start → IsRow start (record { words = ws; log = r.log; had = r.had; holder = hd }) (set s.views id w) q)
      → Ruled means start record { words = ws; homes = homes'; views = set s.views id w }
  moved_on s r ws hd homes' id v w at some_left a wide current home empty later mine rows = record {
    log = r.log;
    had = r.had;
    holder = hd;
    joint = joint_on (at_moment s r) ws hd s.homes homes' s.views id v w at a wide current home empty r.joint;
    seats = seats_set (at_moment s r) (record { words = ws; log = r.log; had = r.had; holder = hd }) s.homes s.views id v w r.joint at some_left later mine r.seats;
    rows = rows;
  }

  -- and leaves the value where it is
  pub moved : (s : St) (r : Ruled means start s) (ws : List ℕ) (hd : ℕ → ℕ) (id : ℕ) (v w : View) → get_elem? s.views id ≡ some v → 0 < v.allowance + total step_of v.made → Alike v w
      → length ws ≡ length s.words → IsCurrent start (record { words = ws; log = r.log; had = r.had; holder = hd }) r.log
      → ((lent : Bool) → IsHome start (at_moment s r) means s.homes lent → IsHome start (record { words = ws; log = r.log; had = r.had; holder = hd }) means s.homes lent)
      → Later start id (at_moment s r) (record { words = ws; log = r.log; had = r.had; holder = hd })
      → Fits start (record { words = ws; log = r.log; had = r.had; holder = hd }) id w
      → ((q : ℕ) → lock_at q < length start → IsRow start (record { words = ws; log = r.log; had = r.had; holder = hd }) (set s.views id w) q)
      → Ruled means start record { words = ws; homes = s.homes; views = set s.views id w }
  moved s r ws hd id v w at some_left a wide current home later mine rows = moved_on s r ws hd s.homes id v w at some_left a.sums wide current
      (home_set (at_moment s r) (record { words = ws; log = r.log; had = r.had; holder = hd }) s.homes s.homes s.views id v w at a.lent_is home (root_home (at_moment s r) s.homes s.views r.joint))
      (lent_set s.homes s.views id v w at a.lent_is a.moving_is r.joint.empty) later mine rows

  pub holders_set : (views : List View) (id : ℕ) (v w : View) (q : ℕ) → get_elem? views id ≡ some v → w.live ≡ true → (is_holding (corner v q).stage ≡ true → is_holding (corner w q).stage ≡ true)
      → (j : ℕ) (u : View) → get_elem? views j ≡ some u → u.live ≡ true → is_holding (corner u q).stage ≡ true
      → (x : View) × (get_elem? (set views id w) j ≡ some x) × (x.live ≡ true) × (is_holding (corner x q).stage ≡ true)
  holders_set views id v w q at live stays j u there u_live holds = dite (ℕ_discrete j id)
      (λ e. let same : u ≡ v = some-injective _ _ (sym there ∙ (ap (get_elem? views) e ∙ at)) in
      (w, ap (get_elem? (set views id w)) e ∙ set_here views id w (at_below views id v at), live, stays (subst (λ (x : View). is_holding (corner x q).stage ≡ true) same holds)))
      (λ n. (u, set_else views id j w n ∙ there, u_live, holds))

  pub same_everywhere : (t : Moment) (q : ℕ) → SameRow start t t q
  same_everywhere t q = record { lock_is = refl; now_is = λ i h. refl; version_is = refl; stands_is = λ i. refl; free_is = refl; holder_is = refl }

  -- a step that changes no word
  pub unmoved : (s : St) (r : Ruled means start s) (i id : ℕ) (cs : List (ℕ × Option K)) (v w : View) → get_elem? s.views id ≡ some v → 0 < v.allowance + total step_of v.made → Alike v w
      → ((q : ℕ) → is_holding (corner v q).stage ≡ true → is_holding (corner w q).stage ≡ true)
      → Fits start (at_moment s r) id w → Ruled means start (stepped s i (get_or s.words i 0) id cs w keeps)
  unmoved s r i id cs v w at some_left a stays mine = subst (λ (ws : List ℕ). Ruled means start record { words = ws; homes = s.homes; views = set s.views id w }) (sym (set-get_or s.words i 0))
      (moved s r s.words r.holder id v w at some_left a refl r.joint.current (λ lent h. h) (no_change start id (at_moment s r)) mine
      (λ q inside. same_row start (at_moment s r) (at_moment s r) s.views (set s.views id w) q (same_everywhere (at_moment s r) q) (holders_set s.views id v w q at a.sums.live_is (stays q) (r.holder q)) (r.rows q inside)))
