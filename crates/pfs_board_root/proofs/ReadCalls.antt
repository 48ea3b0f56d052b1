-- A root that is alone reads rows as they stand, and loads words.
use Rattle.std.proofs.Common.{ℕ, ◌≡◌, ◌+◌, ◌*◌, ◌/◌, ◌<◌, ◌≤◌, ◌==◌, cond, true, List, [], ◌∷◌, ◌++◌, length, slice_index, slice_set, Some, inl, inr, refl, ap, sym, ◌∙◌, subst, arith, append_assoc}
use Rattle.std.proofs.lemmas.Bool.{cases_eq}
use Rattle.std.proofs.lemmas.List.{get_or-set_other, get_or-set_same}
use Rattle.pfs_board.specs.Knowledge.{IsAsLeft, IsWhole, corner, read_of, sight_of, sighted, turned}
use Rattle.pfs_board.specs.ReadAnswers.{IsSeenAs}
use Rattle.pfs_board.specs.declared.answers.Seen.TheVariants as shown
use Rattle.pfs_board.specs.declared.view.Corner.{Corner}
use Rattle.pfs_board.specs.declared.view.Finished.{Finished}
use Rattle.pfs_board.specs.declared.view.Sight.{Sight}
use Rattle.pfs_board.specs.declared.view.Stage.TheVariants.{Idle}
use Rattle.pfs_board.specs.declared.view.View.{View}
use Rattle.pfs_board_store.specs.Looks.{AreLooked, HasLooked}
use Rattle.pfs_board_store.specs.Ties.{AreLoaded}
use Rattle.pfs_board_store.proofs.ViewCorners.{away_if, here_if, other, same}
use Rattle.pfs_levels.specs.CallOrder.{AreRising, AreThere, top_in, top_word}
use Rattle.pfs_levels.specs.Calls.{Call, Adds, Rings, Reads, Loads, Draws, Takes, Puts, Frees, Sets, Enters, Leaves, Meets, IsRow, Opening, Start, action_in, after_in}
use Rattle.pfs_rows.specs.declared.table.Seen.TheVariants.{Whole, Free}
use Rattle.pfs_rows.specs.declared.table.Seen.TheVariants as sees
use Rattle.pfs_switches.specs.Knowledge.{load_of, loaded}
use Rattle.pfs_switches.specs.declared.view.View.{View as WordView}
use Rattle.pfs_board_root.specs.Roots.{RootView}
use Rattle.pfs_board_root.specs.Settlements.{own_opening}
use Rattle.pfs_board_root.specs.Readings.{AllAsSeen, AreAbove, HasOnlyRead, HaveRead, IsAsSeen}

-- such calls are made in no action, and after none
pub quiet_in : (v : View) (calls : List Call) → AllAsSeen v calls → (action_in calls ≡ 0) × (after_in calls ≡ 0)
quiet_in v [] a = (refl, refl)
quiet_in v (Reads row seen ∷ calls) a = quiet_in v calls a.1
quiet_in v (Loads at version flags ∷ calls) a = quiet_in v calls a.1
quiet_in v (Adds row amount answer ∷ calls) a = absurd a.0
quiet_in v (Rings row content answer ∷ calls) a = absurd a.0
quiet_in v (Draws kind ticket ∷ calls) a = absurd a.0
quiet_in v (Meets versions ∷ calls) a = absurd a.0
quiet_in v (Takes row version found ∷ calls) a = absurd a.0
quiet_in v (Puts row content version ∷ calls) a = absurd a.0
quiet_in v (Frees row version ∷ calls) a = absurd a.0
quiet_in v (Sets at flags version ∷ calls) a = absurd a.0
quiet_in v (Enters label labels ∷ calls) a = absurd a.0
quiet_in v (Leaves ∷ calls) a = absurd a.0

-- a root that is alone finds each row as it saw it last, so earlier readings stay what they are
module _ (v w : View) (row n : ℕ) (low : row < length v.rows) (rows : w.rows ≡ slice_set v.rows row (sighted Idle n)) (left : IsAsLeft v row n) (whole : IsWhole v) where
  here : corner w row ≡ sighted Idle n
  here = same v w row (sighted Idle n) rows low

  still : (r word : ℕ) → (corner v r).fresh ≡ true → (corner v r).last ≡ Some word → ((corner w r).fresh ≡ true) × ((corner w r).last ≡ Some word)
  still r word f l = elim (cases_eq r row) [
    | inl e ↦ let m : n ≡ word = left whole word (ap (λ z. (corner v z).fresh) (sym e) ∙ f) (ap (λ z. (corner v z).last) (sym e) ∙ l) in
        (ap (λ z. (corner w z).fresh) e ∙ ap (λ (c : Corner). c.fresh) here, ap (λ z. (corner w z).last) e ∙ (ap (λ (c : Corner). c.last) here ∙ ap Some m))
    | inr d ↦ let o : corner w r ≡ corner v r = other v w row r (sighted Idle n) rows d in
        (ap (λ (c : Corner). c.fresh) o ∙ f, ap (λ (c : Corner). c.last) o ∙ l)
  ]

  pub seen_still : (calls : List Call) → AllAsSeen v calls → AllAsSeen w calls
  seen_still [] a = tt
  seen_still (Reads r (Whole k found) ∷ calls) a = let s = still r (4 * k + 2) a.0.1 a.0.2 in ((a.0.0, s.0, s.1), seen_still calls a.1)
  seen_still (Reads r (Free word) ∷ calls) a = let s = still r word a.0.1 a.0.2 in ((a.0.0, s.0, s.1, a.0.3), seen_still calls a.1)
  seen_still (Reads r (sees.Busy first second) ∷ calls) a = absurd a.0
  seen_still (Loads at version flags ∷ calls) a = (a.0, seen_still calls a.1)
  seen_still (Adds r amount answer ∷ calls) a = absurd a.0
  seen_still (Rings r content answer ∷ calls) a = absurd a.0
  seen_still (Draws kind ticket ∷ calls) a = absurd a.0
  seen_still (Meets versions ∷ calls) a = absurd a.0
  seen_still (Takes r version found ∷ calls) a = absurd a.0
  seen_still (Puts r content version ∷ calls) a = absurd a.0
  seen_still (Frees r version ∷ calls) a = absurd a.0
  seen_still (Sets at flags version ∷ calls) a = absurd a.0
  seen_still (Enters label labels ∷ calls) a = absurd a.0
  seen_still (Leaves ∷ calls) a = absurd a.0

  pub tops_still : (calls more : List Call) → top_in more row ≤ n / 4 → ((q : ℕ) → (q ≡ row → ⊥) → top_in more q ≡ top_in calls q) → ((q : ℕ) → top_in calls q ≤ (corner v q).seen) → (q : ℕ) → top_in more q ≤ (corner w q).seen
  tops_still calls more top away tops q = elim (cases_eq q row) [
    | inl e ↦ let P : ℕ → Type 0 = λ z. top_in more z ≤ (corner w z).seen in
        let D : Corner → Type 0 = λ z. top_in more row ≤ z.seen in
        subst P (sym e) (subst D (sym here) top)
    | inr d ↦ let D : Corner → Type 0 = λ z. top_in more q ≤ z.seen in
        subst D (sym (other v w row q (sighted Idle n) rows d)) (omega (arith, away q d, tops q))
  ]

-- what a look at a row, or a load, leaves
pub only_trans : (r s u : RootView) → HasOnlyRead r s → HasOnlyRead s u → HasOnlyRead r u
only_trans r s u f g = record {
  board = g.board ∙ f.board;
  switches = g.switches ∙ f.switches;
  tickets = g.tickets ∙ f.tickets;
  start = g.start ∙ f.start;
  number = g.number ∙ f.number;
  base = g.base ∙ f.base;
  seats = g.seats ∙ f.seats;
  allowance = g.allowance ∙ f.allowance;
  made = g.made ∙ f.made;
  entered = g.entered ∙ f.entered;
  words_number = g.words_number ∙ f.words_number;
  words_seats = g.words_seats ∙ f.words_seats;
  words_start = g.words_start ∙ f.words_start;
  first = g.first ∙ f.first;
  meets = g.meets ∙ f.meets;
  seen = λ word. omega (arith, f.seen word, g.seen word);
  draws = g.draws ∙ f.draws;
}

-- the root looked at a row, and nothing else
pub record HasLookedAt (r s : RootView) (row n : ℕ) (reads : List Finished) (sights : List Sight) : Type 0 where
  pub board : s.board ≡ r.board
  pub switches : s.switches ≡ r.switches
  pub tickets : s.tickets ≡ r.tickets
  pub seat : s.seat ≡ record (turned r.seat row (sighted Idle n)) { looks = s.seat.looks; reads = reads; sights = sights }
  pub words : s.words ≡ r.words
  pub draws : s.draws ≡ r.draws

looked_only : (r s : RootView) (row n : ℕ) (reads : List Finished) (sights : List Sight) → HasLookedAt r s row n reads sights → HasOnlyRead r s
looked_only r s row n reads sights l = record {
  board = l.board;
  switches = l.switches;
  tickets = l.tickets;
  start = ap (λ (v : View). v.start) l.seat;
  number = ap (λ (v : View). v.number) l.seat;
  base = ap (λ (v : View). v.base) l.seat;
  seats = ap (λ (v : View). v.seats) l.seat;
  allowance = ap (λ (v : View). v.allowance) l.seat;
  made = ap (λ (v : View). v.made) l.seat;
  entered = ap (λ (v : View). v.entered) l.seat;
  words_number = ap (λ (w : WordView). w.number) l.words;
  words_seats = ap (λ (w : WordView). w.seats) l.words;
  words_start = ap (λ (w : WordView). w.start) l.words;
  first = ap (λ (w : WordView). w.first) l.words;
  meets = ap (λ (w : WordView). w.meets) l.words;
  seen = λ word. omega (arith, ap (λ (w : WordView). slice_index w.seen word) l.words);
  draws = l.draws;
}

looked_more : (start : Start) (calls : List Call) (call : Call) (mine reads : List Finished) (seen sights : List Sight) → HasLooked start calls call mine seen → AreLooked start calls reads sights
    → AreLooked start (call ∷ calls) (mine ++ reads) (seen ++ sights)
unfolding AreLooked
looked_more start calls call mine reads seen sights has l = (mine, reads, refl, seen, sights, refl, has, l)

module _ (flags : List ℕ) (was now new : RootView) (start : Opening) (calls : List Call) (h : HaveRead flags was now start calls) where
  number_is : now.seat.number ≡ start.board.number
  number_is = h.kept.number ∙ ap (λ (o : Opening). o.board.number) (sym h.begun)

  base_is : now.seat.base ≡ start.board.base
  base_is = h.kept.base ∙ ap (λ (o : Opening). o.board.base) (sym h.begun)

  pub read_on : (row n : ℕ) (call : Call) (mine : List Finished) (seen : List Sight) → row < length now.seat.rows → IsWhole now.seat → IsAsLeft now.seat row n
      → HasLookedAt now new row n (mine ++ now.seat.reads) (seen ++ now.seat.sights) → HasLooked start.board calls call mine seen
      → ((v : View) → corner v row ≡ sighted Idle n → IsAsSeen v call) → top_in (call ∷ calls) row ≤ n / 4 → ((q : ℕ) → (q ≡ row → ⊥) → top_in (call ∷ calls) q ≡ top_in calls q)
      → ((word : ℕ) → top_word (call ∷ calls) word ≡ top_word calls word) → AreLoaded start (call ∷ calls) h.loads → AreAbove was.words.seen (call ∷ calls) → AreRising (call ∷ calls) → AreThere (call ∷ calls)
      → HaveRead flags was new start (call ∷ calls)
  read_on row n call mine seen low whole left l has shows top away words loads above rising there =
      let rows : new.seat.rows ≡ slice_set now.seat.rows row (sighted Idle n) = ap (λ (v : View). v.rows) l.seat in
      record {
        begun = h.begun;
        alone = (shows new.seat (here now.seat new.seat row n low rows left whole), seen_still now.seat new.seat row n low rows left whole calls h.alone);
        reads = mine ++ h.reads;
        reads_are = ap (λ (v : View). v.reads) l.seat ∙ (ap (λ z. mine ++ z) h.reads_are ∙ sym (append_assoc mine h.reads was.seat.reads));
        sights = seen ++ h.sights;
        sights_are = ap (λ (v : View). v.sights) l.seat ∙ (ap (λ z. seen ++ z) h.sights_are ∙ sym (append_assoc seen h.sights was.seat.sights));
        looked = looked_more start.board calls call mine h.reads seen h.sights has h.looked;
        loads = h.loads;
        loads_are = ap (λ (w : WordView). w.loads) l.words ∙ h.loads_are;
        loaded = loads;
        rising = rising;
        there = there;
        tops = tops_still now.seat new.seat row n low rows left whole calls (call ∷ calls) top away h.tops;
        words = λ word. omega (arith, words word, h.words word, ap (λ (w : WordView). slice_index w.seen word) l.words);
        above = above;
        kept = only_trans was now new h.kept (looked_only now new row n (mine ++ now.seat.reads) (seen ++ now.seat.sights) l);
      }

  pub read_whole : (row k : ℕ) (found : List ℕ) → IsRow row → 14242 ≤ length now.seat.rows → IsWhole now.seat → now.seat.action ≡ 0 → now.seat.after ≡ 0
      → IsSeenAs now.seat row (shown.Whole k found) new.seat → new.board ≡ now.board → new.switches ≡ now.switches → new.tickets ≡ now.tickets → new.words ≡ now.words → new.draws ≡ now.draws
      → HaveRead flags was new start (Reads row (Whole k found) ∷ calls)
  read_whole row k found is wide whole out never a eb es et ew ed =
      let q = quiet_in now.seat calls h.alone in
      read_on row (4 * k + 2) (Reads row (Whole k found)) (read_of now.seat row k found ∷ []) [] (omega (arith, wide, is.1)) whole a.3
      (record { board = eb; switches = es; tickets = et; seat = a.2; words = ew; draws = ed })
      ((read_of now.seat row k found, refl, record { by_is = number_is; base_is = base_is; row_is = refl; version_is = refl; action_is = out ∙ sym q.0; after_is = never ∙ sym q.1 }, refl), refl)
      (λ v e. (is, ap (λ (c : Corner). c.fresh) e, ap (λ (c : Corner). c.last) e)) (omega (arith, here_if row k (top_in calls row))) (λ r d. away_if row r k (top_in calls r) d) (λ word. refl) h.loaded h.above
      (omega (arith, h.tops row, a.0), h.rising) (is.1, h.there)

  pub read_free : (row word : ℕ) → IsRow row → 14242 ≤ length now.seat.rows → IsWhole now.seat → now.seat.action ≡ 0 → now.seat.after ≡ 0
      → IsSeenAs now.seat row (shown.Free word) new.seat → new.board ≡ now.board → new.switches ≡ now.switches → new.tickets ≡ now.tickets → new.words ≡ now.words → new.draws ≡ now.draws
      → HaveRead flags was new start (Reads row (Free word) ∷ calls)
  read_free row word is wide whole out never a eb es et ew ed =
      let q = quiet_in now.seat calls h.alone in
      read_on row word (Reads row (Free word)) [] (sight_of now.seat row word word ∷ []) (omega (arith, wide, is.1)) whole a.3
      (record { board = eb; switches = es; tickets = et; seat = a.2; words = ew; draws = ed })
      (refl, (sight_of now.seat row word word, refl, record { by_is = number_is; base_is = base_is; row_is = refl; first_is = refl; second_is = refl; action_is = out ∙ sym q.0; after_is = never ∙ sym q.1 }))
      (λ v e. (is, ap (λ (c : Corner). c.fresh) e, ap (λ (c : Corner). c.last) e, a.0)) (omega (arith, here_if row (word / 4) (top_in calls row))) (λ r d. away_if row r (word / 4) (top_in calls r) d) (λ at. refl) h.loaded h.above
      (omega (arith, h.tops row, a.1), h.rising) (is.1, h.there)

  pub load_on : (word k to : ℕ) → word < 160 → 160 ≤ length now.words.seen → slice_index now.words.seen word ≤ k → ((r : ℕ) → slice_index now.words.seen r ≤ slice_index new.words.seen r)
      → new.words ≡ loaded now.words word k to → new.board ≡ now.board → new.switches ≡ now.switches → new.tickets ≡ now.tickets → new.seat ≡ now.seat → new.draws ≡ now.draws
      → HaveRead flags was new start (Loads word k to ∷ calls)
  load_on word k to low wide up seen is eb es et ev ed =
      let seen_is : new.words.seen ≡ slice_set now.words.seen word k = ap (λ (w : WordView). w.seen) is in
      record {
        begun = h.begun;
        alone = subst (λ (v : View). AllAsSeen v (Loads word k to ∷ calls)) (sym ev) (low, h.alone);
        reads = h.reads;
        reads_are = ap (λ (v : View). v.reads) ev ∙ h.reads_are;
        sights = h.sights;
        sights_are = ap (λ (v : View). v.sights) ev ∙ h.sights_are;
        looked = looked_more start.board calls (Loads word k to) [] h.reads [] h.sights (refl, refl) h.looked;
        loads = load_of now.words word k to ∷ h.loads;
        loads_are = ap (λ (w : WordView). w.loads) is ∙ ap (λ z. load_of now.words word k to ∷ z) h.loads_are;
        loaded = (
          record {
            by_is = h.kept.words_number ∙ ap (λ (o : Opening). o.switches.number) (sym h.begun);
            first_is = ap (λ z. slice_index z word) (h.kept.first ∙ ap (λ (o : Opening). o.words) (sym h.begun));
            word_is = refl;
            version_is = refl;
            flags_is = refl;
          },
          h.loaded,
        );
        rising = (omega (arith, up, h.words word), h.rising);
        there = (low, h.there);
        tops = λ row. subst (λ (v : View). top_in calls row ≤ (corner v row).seen) (sym ev) (h.tops row);
        words = λ q. elim (cases_eq q word) [
          | inl e ↦ let P : ℕ → Type 0 = λ z. cond (word == z) k (top_word calls z) ≤ slice_index new.words.seen z in
              subst P (sym e) (omega (arith, here_if word k (top_word calls word), ap (λ z. slice_index z word) seen_is, get_or-set_same now.words.seen word k 0 (omega (arith, low, wide))))
          | inr d ↦ omega (arith, away_if word q k (top_word calls q) d, ap (λ z. slice_index z q) seen_is, get_or-set_other now.words.seen word q k 0 d, h.words q)
        ];
        above = (omega (arith, h.kept.seen word, up), h.above);
        kept = only_trans was now new h.kept (record {
          board = eb;
          switches = es;
          tickets = et;
          start = ap (λ (v : View). v.start) ev;
          number = ap (λ (v : View). v.number) ev;
          base = ap (λ (v : View). v.base) ev;
          seats = ap (λ (v : View). v.seats) ev;
          allowance = ap (λ (v : View). v.allowance) ev;
          made = ap (λ (v : View). v.made) ev;
          entered = ap (λ (v : View). v.entered) ev;
          words_number = ap (λ (w : WordView). w.number) is;
          words_seats = ap (λ (w : WordView). w.seats) is;
          words_start = ap (λ (w : WordView). w.start) is;
          first = ap (λ (w : WordView). w.first) is;
          meets = ap (λ (w : WordView). w.meets) is;
          seen = seen;
          draws = ed;
        });
      }

-- before any reading
pub none_read : (flags : List ℕ) (was : RootView) → HaveRead flags was was (own_opening flags was) []
unfolding AreLooked
none_read flags was = record {
  begun = refl;
  alone = tt;
  reads = [];
  reads_are = refl;
  sights = [];
  sights_are = refl;
  looked = (refl, refl);
  loads = [];
  loads_are = refl;
  loaded = refl;
  rising = tt;
  there = tt;
  tops = λ row. omega arith;
  words = λ word. omega arith;
  above = tt;
  kept = record {
    board = refl;
    switches = refl;
    tickets = refl;
    start = refl;
    number = refl;
    base = refl;
    seats = refl;
    allowance = refl;
    made = refl;
    entered = refl;
    words_number = refl;
    words_seats = refl;
    words_start = refl;
    first = refl;
    meets = refl;
    seen = λ word. omega arith;
    draws = refl;
  };
}
