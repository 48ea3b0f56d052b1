-- The steps that change the words of one row and no history: the take, and the store of a content word.
use Rattle.std.proofs.Common.{◌≡◌, ℕ, eqb, subst, eq-eqb, ne_eqb, zero, suc, ◌+◌, ◌*◌, ◌/◌, ◌%◌, ◌<◌, ◌≤◌, ◌≢◌, true, false, cond, List, [], ◌∷◌, ◌++◌, length, get_or, set, sym, refl, ap, ◌∙◌, inl, inr, ⊎_elim, arith, length-set, length-append, get_or-set_other, get_or-set_same}
use Rattle.std.specs.Prelude.{Option, Some, None}
use Rattle.std.proofs.lemmas.Bool.{cond-false, cond-true}
use Rattle.pfs_lemmas.proofs.Options.{some_same}
use mathlib.Core.Logic.{dite}
use mathlib.Core.Option.{some, none}
use native.Mathlib.Decide.{ℕ_discrete}
use lib.ListN.{get_elem?, get_or-append}
use lib.Seq.{get_or_at}
use prog.Atomic.{either}
use Rattle.atomic_table.specs.Table.{State, Me, step, keeps, stepped, Allows}
use Rattle.atomic_table.proofs.Lists.{set_here}
use Rattle.pfs_board.specs.declared.view.Change.{Change}
use Rattle.pfs_board.specs.declared.view.Corner.{Corner}
use Rattle.pfs_board.specs.declared.view.Label.{Label}
use Rattle.pfs_board.specs.declared.view.Stage.{Stage}
use Rattle.pfs_board.specs.declared.view.Stage.TheVariants.{Idle, Reading, Holding}
use Rattle.pfs_board.specs.declared.view.View.{View}
use Rattle.pfs_board.specs.History.{lock_at, word_at, version, stands, version_of, Floor}
use Rattle.pfs_board.specs.Knowledge.{newcomer, corner, is_holding, held, IsWhole, turned, sighted, stored, restaged, took, missed}
use Rattle.pfs_board.specs.Rule.{Moment, lock, now, Knows, IsRead, IsKnown, IsSeen, IsSight, IsEntered, IsLast, FitsRow, IsRow, IsCurrent, Ruled}
use Rattle.pfs_board.specs.Plays.{IsLook, takes, stores}
use Rattle.pfs_board.proofs.HistoryFacts.{each_map, below_all, floor_new}
use Rattle.pfs_board.proofs.ViewFacts.{held_set, one, at_below}
use Rattle.pfs_board.proofs.RuleSteps.{SameRow, same_knows, same_row, Later, fits_after, inside_same, moved, holders_set}
use Rattle.pfs_board.proofs.Looks.{hold_set, here, sub, look, sees, sight_then, again}

-- f of 0 to n - 1
pub listed : (ℕ → ℕ) → ℕ → List ℕ
listed f zero = []
listed f (suc n) = f 0 ∷ listed (λ i. f (suc i)) n

pub length_listed : (f : ℕ → ℕ) (n : ℕ) → length (listed f n) ≡ n
unfolding listed
length_listed f zero = refl
length_listed f (suc n) = let e = length_listed (λ i. f (suc i)) n in omega arith

pub get_listed : (f : ℕ → ℕ) (n i : ℕ) → i < n → get_or (listed f n) i 0 ≡ f i
unfolding listed
get_listed f zero i h = absurd (omega arith)
get_listed f (suc n) zero h = refl
get_listed f (suc n) (suc i) h = get_listed (λ i. f (suc i)) n i (omega arith)

module _ (start : List ℕ) where
  -- the moment after a word of the row q was set
  abbrev pub after_set : Moment → ℕ → ℕ → (ℕ → ℕ) → Moment
  after_set t i x hd = record { words = set t.words i x; log = t.log; had = t.had; holder = hd }

  -- other rows are as they were
  pub other_row : (t : Moment) (q i x : ℕ) (hd : ℕ → ℕ) → lock_at q ≤ i → i < lock_at q + 17 → ((p : ℕ) → p ≢ q → hd p ≡ t.holder p) → (p : ℕ) → p ≢ q → SameRow start t (after_set t i x hd) p
  other_row t q i x hd low high stays p n = record {
    lock_is = get_or-set_other t.words i (lock_at p) x 0 (λ e. n (omega arith));
    now_is = λ j h. get_or-set_other t.words i (word_at p j) x 0 (λ e. n (omega arith));
    version_is = refl;
    stands_is = λ j. refl;
    free_is = refl;
    holder_is = stays p n;
  }

  pub last_set : (t : Moment) (i x : ℕ) (hd : ℕ → ℕ) (j p : ℕ) (k : Option ℕ) → IsLast start t j p k → IsLast start (after_set t i x hd) j p k
  last_set t i x hd j p None l = l
  last_set t i x hd j p (Some n) l = l

  knows_set : (t : Moment) (id q i x : ℕ) (hd : ℕ → ℕ) → ((k : ℕ) → lock t q ≡ 4 * k + 1 → t.holder q ≡ id) → ((k : ℕ) → lock (after_set t i x hd) q ≢ 4 * k + 2)
      → (j : ℕ) → j ≢ id → (st : Stage) → Knows start t j q st → Knows start (after_set t i x hd) j q st
  knows_set t id q i x hd mine no_read j n Idle k = tt
  knows_set t id q i x hd mine no_read j n (Reading v xs) k = (k.0, k.1, λ is. absurd (no_read v is))
  knows_set t id q i x hd mine no_read j n (Holding v found put) k = absurd (n (k.1 ∙ mine v k.0))

  known_set : (t : Moment) (i x : ℕ) (hd : ℕ → ℕ) (row n after base : ℕ) → IsKnown start t row n after base → IsKnown start (after_set t i x hd) row n after base
  known_set t i x hd row n after base a = record { state = a.state; below = a.below; free = a.free; opened = a.opened; floor = a.floor }

  seen_set : (t : Moment) (q i x : ℕ) (hd : ℕ → ℕ) → ((p : ℕ) → p ≢ q → SameRow start t (after_set t i x hd) p)
      → ((by n : ℕ) → n % 4 ≡ 1 → lock t q ≡ n → t.holder q ≢ by → (lock (after_set t i x hd) q ≡ n) × (hd q ≢ by))
      → (by row n after base : ℕ) → IsSeen start t by row n after base → IsSeen start (after_set t i x hd) by row n after base
  seen_set t q i x hd same others by row n after base a = record {
    known = known_set t i x hd row n after base a.known;
    dirty = λ z. ⊎_elim (λ (h : (lock t row ≡ n) × (t.holder row ≢ by)). inl (dite (ℕ_discrete row q)
        (λ e. let o = others by n z (ap (lock t) (sym e) ∙ h.0) (λ g. h.1 (ap t.holder e ∙ g)) in (ap (lock (after_set t i x hd)) e ∙ o.0, λ g. o.1 (ap hd (sym e) ∙ g)))
        (λ ne. let s = same row ne in (s.lock_is ∙ h.0, λ g. h.1 (sym s.holder_is ∙ g))))) (λ p. inr p) (a.dirty z);
  }

  -- What others know stays where the row was in no other's hand, and is not allocated now
  pub later_set : (t : Moment) (id q i x : ℕ) (hd : ℕ → ℕ) → lock_at q ≤ i → i < lock_at q + 17 → ((p : ℕ) → p ≢ q → hd p ≡ t.holder p)
      → ((k : ℕ) → lock t q ≡ 4 * k + 1 → t.holder q ≡ id) → ((k : ℕ) → lock (after_set t i x hd) q ≢ 4 * k + 2)
      → ((by n : ℕ) → n % 4 ≡ 1 → lock t q ≡ n → t.holder q ≢ by → (lock (after_set t i x hd) q ≡ n) × (hd q ≢ by))
      → Later start id t (after_set t i x hd)
  later_set t id q i x hd low high stays mine no_read others = let t' : Moment = after_set t i x hd in let same = other_row t q i x hd low high stays in record {
    knows = λ j p st n k. dite (ℕ_discrete p q) (λ e. subst (λ z. Knows start t' j z st) (sym e) (knows_set t id q i x hd mine no_read j n st (subst (λ z. Knows start t j z st) e k))) (λ ne. same_knows start t t' p j st (same p ne) k);
    version_up = λ p. omega arith;
    last = λ j p k n l. last_set t i x hd j p k l;
    inside = λ j v n w k a. inside_same start t t' v v record { action_is = refl; after_is = refl; lent_is = refl; labels_is = refl; whole_then = λ z. z } refl refl refl a;
    known = known_set t i x hd;
    read = λ f a. record { below = a.below; wide = a.wide; content_is = a.content_is; opened = a.opened; floor = a.floor };
    sight = λ y a. record { one = seen_set t q i x hd same others y.by y.row y.first y.after y.base a.one; two = seen_set t q i x hd same others y.by y.row y.second y.after y.base a.two; shape = a.shape; order = a.order; again = a.again; between = a.between };
    entered = λ e a. record { count = a.count; later = a.later; labels_are = a.labels_are };
    had_more = omega arith;
  }

module _ {K : Type 0} (means : K → List Label → Type 0) (start : List ℕ) where
  abbrev St : Type 0
  St = State (Option K) View

  abbrev M : Type 0
  M = Me (Option K) View

  abbrev Rule : St → Type 0
  Rule = Ruled means start

  -- whose row 0 stays as it was
  current_same : (t : Moment) (ws : List ℕ) (hd : ℕ → ℕ) → get_or ws 0 0 ≡ lock t 0 → hd 0 ≡ t.holder 0 → IsCurrent start t t.log → IsCurrent start (record { words = ws; log = t.log; had = t.had; holder = hd }) t.log
  current_same t ws hd l h c = each_map (λ (p : Change). p.action ≡ version t.log 0 + 1 → (lock t 0 % 4 ≡ 1) × (p.by ≡ t.holder 0)) (λ (p : Change). p.action ≡ version t.log 0 + 1 → (get_or ws 0 0 % 4 ≡ 1) × (p.by ≡ hd 0))
      (λ p g e. let x = g e in (ap (λ z. z % 4) l ∙ x.0, x.1 ∙ sym h)) t.log c

  abbrev pub taker : ℕ → ℕ → (ℕ → ℕ) → ℕ → ℕ
  taker q id hd p = cond (eqb p q) id (hd p)

  taken : (s : St) (r : Rule s) (id q old : ℕ) (cs : List (ℕ × Option K)) (v : View) → get_elem? s.views id ≡ some v → v.live ≡ true → lock_at q < length start → 0 < q → is_holding (corner v q).stage ≡ false
      → held v.rows < v.allowance → lock (here means start s r) q ≡ old → old % 4 ≢ 1 → Rule (stepped s (lock_at q) (4 * (old / 4) + 1) id cs (took v q old (listed (now (here means start s r) q) 16)) keeps)
  taken s r id q old cs v at live inside above not_held room is clean = let t = here means start s r in let found : List ℕ = listed (now t q) 16 in let k : ℕ = old / 4 in let w : View = took v q old found in
      let x : ℕ = 4 * k + 1 in let hd : ℕ → ℕ = taker q id r.holder in let t' : Moment = after_set start t (lock_at q) x hd in let f = r.seats id v at live in let o = f.corners q in let g = r.rows q inside in
      let stays : (p : ℕ) → p ≢ q → hd p ≡ r.holder p = λ p n. cond-false (eqb p q) id (r.holder p) (ne_eqb p q n) in
      let mine : hd q ≡ id = cond-true (eqb q q) id (r.holder q) (eq-eqb q q refl) in
      let same = other_row start t q (lock_at q) x hd (omega arith) (omega arith) stays in
      let wide = f.wide in let words_wide = r.joint.wide in let within : q < length v.rows = omega arith in
      let lock_now : lock t' q ≡ x = get_or-set_same s.words (lock_at q) x 0 (omega arith) in
      let counts : k ≡ version r.log q = ap (λ z. z / 4) (sym is) ∙ g.counts in
      let now_same : (i : ℕ) → i < 16 → now t' q i ≡ now t q i = λ i h. get_or-set_other s.words (lock_at q) (word_at q i) x 0 (λ e. omega arith) in
      let stands_now : (i : ℕ) → i < 16 → now t q i ≡ stands start r.log q i = g.clean (λ z. clean (ap (λ z. z % 4) (sym is) ∙ z)) in
      let zero_same = same 0 (λ e. omega arith) in
      let later : Later start id t t' = later_set start t id q (lock_at q) x hd (omega arith) (omega arith) stays (λ j e. absurd (clean (ap (λ z. z % 4) (sym is ∙ e) ∙ omega arith))) (λ j e. omega arith)
      (λ by n odd e _. absurd (clean (ap (λ z. z % 4) (sym is ∙ e) ∙ odd))) in
      let h : held (set v.rows q (corner w q)) + one (corner v q) ≡ held v.rows + one (corner w q) = held_set v.rows q (corner w q) within in
      let c : Corner = sighted (Holding k found []) x in
      let e : held (set v.rows q c) + one (corner v q) ≡ held v.rows + 1 = held_set v.rows q c within in let y : one (corner v q) ≡ 0 = cond-false {A = ℕ} (is_holding (corner v q).stage) 1 0 not_held in
      let fits : held (set v.rows q c) ≤ v.allowance = omega arith in
      let row : FitsRow start t' id q v.after v.base (IsWhole w) c = record {
        knows = (lock_now, sym mine, length_listed (now t q) 16, omega arith, (λ i j. get_listed (now t q) 16 i j ∙ stands_now i j), (λ i j. absurd (omega arith)), (λ i _ j. now_same i j ∙ stands_now i j));
        seen = omega arith;
        last = each_map (λ (p : Change). p.row ≡ q → version_of p ≤ version r.log q) (λ (p : Change). p.row ≡ q → p.by ≡ id → p.version ≤ x / 4) (λ p b a _. let m = b a in omega arith) r.log (below_all start r.log q r.joint.chain);
        tied = λ j xs a. cc;
        known = λ n fresh a. let n_is : x ≡ n = some_same x n a in let q_is : n / 4 ≡ version r.log q = omega arith in record {
          state = omega arith;
          below = omega arith;
          free = λ z. absurd (omega arith);
          opened = λ z. absurd (omega arith);
          floor = subst (λ z. Floor version_of r.log r.had q z v.after v.base) (sym q_is) (floor_new version_of r.log r.had q (version r.log q) v.after v.base f.ended f.split_at (sub means start s r) (below_all start r.log q r.joint.chain));
        };
        alone = λ _ n fresh a. lock_now ∙ some_same x n a;
      } in
      let still : is_holding (corner w 0).stage ≡ is_holding (corner v 0).stage = ap (λ (z : Corner). is_holding z.stage) (get_or-set_other v.rows q 0 c newcomer (λ a. omega arith)) in
      moved means start s r t'.words hd id v w at f.some_left record { sums = record { live_is = live; made_is = refl; allowance_is = refl; seats_is = refl }; lent_is = refl; moving_is = refl } (length-set s.words (lock_at q) x)
      (current_same t t'.words hd zero_same.lock_is zero_same.holder_is r.joint.current) (λ lent home not_lent not_dirty. home not_lent (λ z. not_dirty (ap (λ b. b % 4) zero_same.lock_is ∙ z))) later
      (fits_after start id t t' v w q c f record { rows_are = refl; number_same = refl; start_same = refl; after_same = refl; base_same = refl; whole_before = λ z. z } within later same (λ p b _ l. last_set start t (lock_at q) x hd id p b l) f.some_left fits row
      (inside_same start t t' v w record { action_is = refl; after_is = refl; lent_is = refl; labels_is = refl; whole_then = λ z. z } refl refl still f.inside) (each_map (IsRead start t) (IsRead start t') later.read v.reads f.reads) (each_map (IsSight start t) (IsSight start t') later.sight v.sights f.sights)
      (each_map (IsEntered start t) (IsEntered start t') later.entered v.entered f.entered))
      (λ p there. dite (ℕ_discrete p q)
      (λ a. subst (IsRow start t' (set s.views id w)) (sym a) record {
        counts = ap (λ z. z / 4) lock_now ∙ (omega arith ∙ counts);
        state = subst (λ z. z % 4 < 3) (sym lock_now) (omega arith);
        clean = λ n. absurd (n (ap (λ z. z % 4) lock_now ∙ omega arith));
        free = λ z. absurd (omega arith);
        allocated = λ z. absurd (omega arith);
        dirty = λ _. (w, ap (get_elem? (set s.views id w)) mine ∙ set_here s.views id w (at_below s.views id v at), live, ap (λ (z : Corner). is_holding z.stage) (get_or-set_same v.rows q c newcomer within));
      })
      (λ n. same_row start t t' s.views (set s.views id w) p (same p n) (holders_set means start s.views id v w p at live (λ b. ap (λ (z : Corner). is_holding z.stage) (get_or-set_other v.rows q p c newcomer n) ∙ b) (r.holder p)) (r.rows p there)))

  pub take_keeps : (slots id : ℕ) (me : M) (q old new : ℕ) → lock_at q < length start → 0 < q → me.0.live ≡ true → is_holding (corner me.0 q).stage ≡ false → held me.0.rows < me.0.allowance
      → (corner me.0 q).fresh ≡ true → (corner me.0 q).last ≡ Some old → old % 4 ≢ 1 → new ≡ 4 * (old / 4) + 1
      → Allows Rule slots id me (lock_at q) (λ n. either (eqb n old) new n) (takes (step slots (lock_at q) old new none) me)
  take_keeps slots id me q old new inside above live not_held room fresh last clean dirty s r _ at _ = let v : View = me.0 in let t = here means start s r in let n : ℕ = lock t q in let found : List ℕ = listed (now t q) 16 in
      let seen = look means start s r id q v at live inside in let f = r.seats id v at live in dite (ℕ_discrete n old)
      (λ hit. let w : View = took v q old found in (
        w,
        keeps,
        tt,
        subst (λ b. Rule (stepped s (lock_at q) (either b new n) id me.1 w keeps)) (sym (eq-eqb n old hit))
            (subst (λ z. Rule (stepped s (lock_at q) z id me.1 w keeps)) (sym dirty) (taken s r id q old me.1 v at live inside above not_held room hit clean)),
        λ p e. let is : q ≡ p = omega arith in subst (λ z. (n ≡ old → (found : List ℕ) × (length found ≡ 16) × (◌≡◌ {A = M} (w, me.1) (took v z old found, me.1))) × (n ≢ old → ◌≡◌ {A = M} (w, me.1) (missed v z old n, me.1)) × IsLook v n z × (old % 4 ≡ 0 → n % 4 ≡ 2 → old / 4 < n / 4)) is
            ((λ _. (found, length_listed (now t q) 16, refl)), (λ miss. absurd (miss hit)), seen, again means start s r id q old v at live inside fresh last),
      ))
      (λ miss. let w : View = missed v q old n in (
        w,
        keeps,
        tt,
        subst (λ b. Rule (stepped s (lock_at q) (either b new n) id me.1 w keeps)) (sym (ne_eqb n old miss))
            (sees means start s r id q (v.looks + 1) me.1 v Idle v.reads w.sights at live inside not_held refl tt (λ k xs is. cc) f.reads (sight_then means start s r id q old v at live inside not_held clean miss fresh last, f.sights)),
        λ p e. let is : q ≡ p = omega arith in subst (λ z. (n ≡ old → (found : List ℕ) × (length found ≡ 16) × (◌≡◌ {A = M} (w, me.1) (took v z old found, me.1))) × (n ≢ old → ◌≡◌ {A = M} (w, me.1) (missed v z old n, me.1)) × IsLook v n z × (old % 4 ≡ 0 → n % 4 ≡ 2 → old / 4 < n / 4)) is
            ((λ hit. absurd (miss hit)), (λ _. refl), seen, again means start s r id q old v at live inside fresh last),
      ))

  stored_row : (s : St) (r : Rule s) (id q i k b : ℕ) (found put : List ℕ) (v : View) → get_elem? s.views id ≡ some v → v.live ≡ true → lock_at q < length start → i < 16 → (corner v q).stage ≡ Holding k found put → length put ≡ i
      → FitsRow start (after_set start (here means start s r) (word_at q i) b r.holder) id q v.after v.base (IsWhole v) (restaged (corner v q) (Holding k found (put ++ b ∷ [])))
  stored_row s r id q i k b found put v at live inside low holding long = let t = here means start s r in let t' : Moment = after_set start t (word_at q i) b r.holder in let f = r.seats id v at live in let o = f.corners q in
      let known = subst (Knows start t id q) holding o.knows in let lock_same : lock t' q ≡ lock t q = get_or-set_other s.words (word_at q i) (lock_at q) b 0 (λ e. omega arith) in
      let wide = f.wide in let words_wide = r.joint.wide in let l = length-append put (b ∷ []) in
      let now_here : now t' q i ≡ b = get_or-set_same s.words (word_at q i) b 0 (omega arith) in
      let now_else : (j : ℕ) → j ≢ i → now t' q j ≡ now t q j = λ j n. get_or-set_other s.words (word_at q i) (word_at q j) b 0 (λ e. n (omega arith)) in record {
        knows = (
          lock_same ∙ known.0,
          known.1,
          known.2,
          omega arith,
          known.4,
          (λ j h. dite (ℕ_discrete j i) (λ e. ap (now t' q) e ∙ (now_here ∙ (sym (get_or_at put b [] 0 i long) ∙ ap (λ z. get_or (put ++ b ∷ []) z 0) (sym e))))
              (λ n. let below : j < length put = omega arith in now_else j n ∙ (known.5 j below ∙ sym (get_or-append put (b ∷ []) 0 j below)))),
          (λ j above h. now_else j (λ e. omega arith) ∙ known.6 j (omega arith) h),
        );
        seen = o.seen;
        last = last_set start t (word_at q i) b r.holder id q (corner v q).last o.last;
        tied = λ j xs a. cc;
        known = λ n fresh a. let z = o.known n fresh a in record { state = z.state; below = z.below; free = z.free; opened = z.opened; floor = z.floor };
        alone = λ whole n fresh a. lock_same ∙ o.alone whole n fresh a;
      }

  stored_rule : (s : St) (r : Rule s) (id q i k b : ℕ) (found put : List ℕ) (cs : List (ℕ × Option K)) (v : View) → get_elem? s.views id ≡ some v → v.live ≡ true → lock_at q < length start → i < 16 → (corner v q).stage ≡ Holding k found put → length put ≡ i
      → Rule (stepped s (word_at q i) b id cs (turned v q (restaged (corner v q) (Holding k found (put ++ b ∷ [])))) keeps)
  stored_rule s r id q i k b found put cs v at live inside low holding long = let t = here means start s r in let t' : Moment = after_set start t (word_at q i) b r.holder in let f = r.seats id v at live in let g = r.rows q inside in
      let c : Corner = restaged (corner v q) (Holding k found (put ++ b ∷ [])) in let w : View = turned v q c in let known = subst (Knows start t id q) holding (f.corners q).knows in
      let lock_same : lock t' q ≡ lock t q = get_or-set_other s.words (word_at q i) (lock_at q) b 0 (λ e. omega arith) in let lock_is : lock t q ≡ 4 * k + 1 = known.0 in
      let same = other_row start t q (word_at q i) b r.holder (omega arith) (omega arith) (λ p _. refl) in let wide = f.wide in let within : q < length v.rows = omega arith in
      let zero_lock : lock t' 0 ≡ lock t 0 = get_or-set_other s.words (word_at q i) 0 b 0 (λ e. omega arith) in
      let held_now : is_holding c.stage ≡ is_holding (corner v q).stage = sym (ap is_holding holding) in let same_hold = hold_set v.rows q c within held_now in
      let h = held_set v.rows q c within in let y : one c ≡ one (corner v q) = ap (λ z. cond z 1 0) held_now in let enough = f.enough in let fits : held (set v.rows q c) ≤ v.allowance = omega arith in
      let later : Later start id t t' = later_set start t id q (word_at q i) b r.holder (omega arith) (omega arith) (λ p _. refl) (λ j e. sym known.1) (λ j e. omega arith) (λ by n odd e other. (lock_same ∙ e, other)) in
      moved means start s r t'.words r.holder id v w at f.some_left record { sums = record { live_is = live; made_is = refl; allowance_is = refl; seats_is = refl }; lent_is = refl; moving_is = refl } (length-set s.words (word_at q i) b)
      (current_same t t'.words r.holder zero_lock refl r.joint.current) (λ lent home not_lent not_dirty. home not_lent (λ z. not_dirty (ap (λ x. x % 4) zero_lock ∙ z))) later
      (fits_after start id t t' v w q c f record { rows_are = refl; number_same = refl; start_same = refl; after_same = refl; base_same = refl; whole_before = λ z. z } within later same (λ p x _ l. last_set start t (word_at q i) b r.holder id p x l) f.some_left fits
      (stored_row s r id q i k b found put v at live inside low holding long) (inside_same start t t' v w record { action_is = refl; after_is = refl; lent_is = refl; labels_is = refl; whole_then = λ z. z } refl refl (same_hold 0) f.inside)
      (each_map (IsRead start t) (IsRead start t') later.read v.reads f.reads) (each_map (IsSight start t) (IsSight start t') later.sight v.sights f.sights) (each_map (IsEntered start t) (IsEntered start t') later.entered v.entered f.entered))
      (λ p there. dite (ℕ_discrete p q)
      (λ a. subst (IsRow start t' (set s.views id w)) (sym a) (let e = g.counts in record {
        counts = ap (λ z. z / 4) lock_same ∙ g.counts;
        state = subst (λ z. z % 4 < 3) (sym lock_same) g.state;
        clean = λ n. absurd (n (ap (λ z. z % 4) (lock_same ∙ lock_is) ∙ omega arith));
        free = λ z. absurd (omega arith);
        allocated = λ z. absurd (omega arith);
        dirty = λ z. let d = g.dirty (ap (λ x. x % 4) (sym lock_same) ∙ z) in holders_set means start s.views id v w q at live (λ x. same_hold q ∙ x) (r.holder q) d.0 d.1 d.2 d.3;
      }))
      (λ n. same_row start t t' s.views (set s.views id w) p (same p n) (holders_set means start s.views id v w p at live (λ x. same_hold p ∙ x) (r.holder p)) (r.rows p there)))

  pub store_keeps : (slots id : ℕ) (me : M) (q i k b : ℕ) (found put : List ℕ) → lock_at q < length start → i < 16 → me.0.live ≡ true → (corner me.0 q).stage ≡ Holding k found put → length put ≡ i
      → Allows Rule slots id me (word_at q i) (λ _. b) (λ _. stores (step slots (word_at q i) b 0 none) me b)
  store_keeps slots id me q i k b found put inside low live holding long s r _ at _ = let v : View = me.0 in let next : stored (corner v q).stage b ≡ Holding k found (put ++ b ∷ []) = ap (λ z. stored z b) holding in
      let w : View = turned v q (restaged (corner v q) (stored (corner v q).stage b)) in (
        w,
        keeps,
        tt,
        subst (λ st. Rule (stepped s (word_at q i) b id me.1 (turned v q (restaged (corner v q) st)) keeps)) (sym next) (stored_rule s r id q i k b found put me.1 v at live inside low holding long),
        λ p j e h. let is : q ≡ p = omega arith in subst (λ z. ◌≡◌ {A = M} (w, me.1) (turned v z (restaged (corner v z) (stored (corner v z).stage b)), me.1)) is refl,
      )
