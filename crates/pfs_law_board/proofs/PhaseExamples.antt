-- Two sessions in two phases on the board of a run, whose root was told three ends: the first draws a ticket, takes a ring
-- place that was never written to and frees it; then the root meets the writer of the words; the second session, whose
-- seat was split off behind that, reads a cell and loads a word. All that the law asks of phases holds of them together.
use Rattle.std.proofs.Common.{ℕ, zero, suc, ◌≡◌, ◌≢◌, ◌+◌, ◌*◌, ◌/◌, ◌==◌, ◌<◌, ◌≤◌, Bool, true, false, cond, List, [], ◌∷◌, ◌++◌, length, replicate, slice_index, get_or, None, refl, ap, sym, ◌∙◌, subst, inl, inr, arith, eq-eqb, ne_eqb}
use Rattle.std.proofs.lemmas.Bool.{cases_eq, cases_lt}
use Rattle.std.proofs.lemmas.List.{get_or-replicate, get_or_past, length-replicate}
use Rattle.atomic_table.specs.Seated.{TableId}
use Rattle.pfs_admin.specs.OpeningState.{opened, opening_flags}
use Rattle.pfs_admin.specs.declared.changes.Change.{Change}
use Rattle.pfs_board.specs.History as board
use Rattle.pfs_board.specs.History.{Each, Floor, IsChain, Rises, is_free, labels_of, lock_at, shows_to, stands, version, word_at}
use Rattle.pfs_board.specs.Knowledge.{IsWhole, corner, held, is_holding, newcomer, no_label, root}
use Rattle.pfs_board.specs.Rule.{FitsRow, IsRead as WasRead, Moment}
use Rattle.pfs_board.specs.WholeSeats.{History, IsFinalRow}
use Rattle.pfs_board.specs.declared.view.Change.{Change as Entry}
use Rattle.pfs_board.specs.declared.view.Finished.{Finished}
use Rattle.pfs_board.specs.declared.view.Label.{Label}
use Rattle.pfs_board.specs.declared.view.Stage.TheVariants.{Idle, Reading}
use Rattle.pfs_board.specs.declared.view.View.{View}
use Rattle.pfs_board_admin.proofs.NewWords.{fresh_desk}
use Rattle.pfs_board_admin.specs.Desks.{IsDesk, opening_pen}
use Rattle.pfs_board_store.specs.Looks.{AreLooked}
use Rattle.pfs_board_store.specs.RootActors.{AreGathered, IsDone, Worked}
use Rattle.pfs_board_store.specs.RootLaws.{IsRunsBoard}
use Rattle.pfs_classes.specs.declared.setting.Setting.{Setting}
use Rattle.pfs_levels.specs.Calls.{Call, Adds, Draws, Enters, Frees, Leaves, Loads, Meets, Opening, Puts, Reads, Rings, Sets, Takes, hand_in}
use Rattle.pfs_levels.specs.JointCalls.{opens_free}
use Rattle.pfs_levels.specs.RowWords.{zero_words}
use Rattle.pfs_matching.specs.ObjectRules.{opening_objects}
use Rattle.pfs_rows.specs.declared.table.Seen.TheVariants.{Whole}
use Rattle.pfs_switches.specs.Knowledge.{met, meet_of, spent}
use Rattle.pfs_switches.specs.OpeningWords.{opening_words}
use Rattle.pfs_switches.specs.SeatViews.{Known, known}
use Rattle.pfs_switches.specs.SharedKnowledge.{IsTold}
use Rattle.pfs_switches.specs.declared.view.Loaded.{Loaded}
use Rattle.pfs_switches.specs.declared.view.View.{View as WordView}
use Rattle.pfs_tickets.specs.WholeSeats.{IsComplete}
use Rattle.pfs_tickets.specs.declared.view.Drawn.{Drawn}
use Rattle.pfs_tickets.specs.declared.view.View.{View as TicketView}
use Rattle.pfs_law_board.specs.PhaseEnds.{AllShared, AreEnded, Phase, PhaseEnd, SharedLaw}

-- calls without a meet
abbrev NoMeets : List Call → Type 0
NoMeets [] = Unit {0}
NoMeets (Meets versions ∷ calls) = ⊥
NoMeets (Adds row amount answer ∷ calls) = NoMeets calls
NoMeets (Rings row content answer ∷ calls) = NoMeets calls
NoMeets (Reads row seen ∷ calls) = NoMeets calls
NoMeets (Loads at version flags ∷ calls) = NoMeets calls
NoMeets (Draws kind ticket ∷ calls) = NoMeets calls
NoMeets (Takes row version found ∷ calls) = NoMeets calls
NoMeets (Puts row content version ∷ calls) = NoMeets calls
NoMeets (Frees row version ∷ calls) = NoMeets calls
NoMeets (Sets at flags version ∷ calls) = NoMeets calls
NoMeets (Enters label labels ∷ calls) = NoMeets calls
NoMeets (Leaves ∷ calls) = NoMeets calls

none_behind : (more earlier : List Call) (versions : List ℕ) → NoMeets (more ++ Meets versions ∷ earlier) → ⊥
none_behind [] earlier versions m = m
none_behind (Meets v ∷ more) earlier versions m = m
none_behind (Adds row amount answer ∷ more) earlier versions m = none_behind more earlier versions m
none_behind (Rings row content answer ∷ more) earlier versions m = none_behind more earlier versions m
none_behind (Reads row seen ∷ more) earlier versions m = none_behind more earlier versions m
none_behind (Loads at version flags ∷ more) earlier versions m = none_behind more earlier versions m
none_behind (Draws kind ticket ∷ more) earlier versions m = none_behind more earlier versions m
none_behind (Takes row version found ∷ more) earlier versions m = none_behind more earlier versions m
none_behind (Puts row content version ∷ more) earlier versions m = none_behind more earlier versions m
none_behind (Frees row version ∷ more) earlier versions m = none_behind more earlier versions m
none_behind (Sets at flags version ∷ more) earlier versions m = none_behind more earlier versions m
none_behind (Enters label labels ∷ more) earlier versions m = none_behind more earlier versions m
none_behind (Leaves ∷ more) earlier versions m = none_behind more earlier versions m

same_if : {A : Type 0} (b : Bool) (x : A) → cond b x x ≡ x
same_if true x = refl
same_if false x = refl

idle_reads : (k : ℕ) (xs : List ℕ) → Idle ≡ Reading k xs → ⊥
idle_reads k xs e = cc

no_true : false ≡ true → ⊥
no_true e = cc

all_same : {A : Type 0} (n i : ℕ) (x : A) → get_or (replicate n x) i x ≡ x
all_same n i x = elim (cases_lt i n) [
  | inl less ↦ get_or-replicate n i x x less
  | inr past ↦ get_or_past (replicate n x) i x (omega (arith, past, length-replicate n x))
]

none_held : (n : ℕ) → held (replicate n newcomer) ≡ 0
none_held zero = refl
none_held (suc n) = omega (arith, none_held n)

abbrev release : Entry
release = record {
  by = 1;
  row = 8450;
  version = 0;
  puts = false;
  action = 0;
  after = 0;
  base = 0;
  label = no_label;
  found = replicate 16 0;
  put = replicate 16 0;
}

abbrev finished : Finished
finished = record { by = 2; row = 135; version = 0; action = 0; after = 0; base = 1; content = zero_words }

-- the tickets, before and behind the one that was drawn
abbrev ticket : Drawn
ticket = record { by = 1; kind = 0; ticket = 0 }

abbrev tickets_of : ℕ → List Drawn → TicketView
tickets_of left drawn = record { live = true; number = 0; seats = 2; draws = left; said = 0; tickets = drawn }

none_drawn : IsComplete (tickets_of 140737488355328 [])
none_drawn = record {
  kinds = tt;
  once = λ k n low few. absurd (omega (arith, few));
  never = λ k n low many. refl;
  rising = tt;
  sum = refl;
}

one_drawn : IsComplete (tickets_of 140737488355327 (ticket ∷ []))
one_drawn = record {
  kinds = (omega arith, tt);
  once = λ k n low few. elim (cases_eq 0 k) [
    | inl e ↦ let none : 0 ≡ n = omega (arith, few, ap (λ b. cond {A = ℕ} b 1 0) (eq-eqb 0 k e)) in rw (eq-eqb 0 k e, eq-eqb 0 n none) refl
    | inr e ↦ absurd (omega (arith, few, ap (λ b. cond {A = ℕ} b 1 0) (ne_eqb 0 k e)))
  ];
  never = λ k n low many. elim (cases_eq 0 k) [
    | inl e ↦ let some : 0 ≢ n = λ z. omega (arith, z, many, ap (λ b. cond {A = ℕ} b 1 0) (eq-eqb 0 k e)) in rw (eq-eqb 0 k e, ne_eqb 0 n some) refl
    | inr e ↦ rw (ne_eqb 0 k e) refl
  ];
  rising = (tt, tt);
  sum = refl;
}

module _ (setting : Setting) (change : Label → Change) (switches table : TableId) (start : List ℕ) (runs : IsRunsBoard start) (long : length start ≡ 17 * 14242)
    (locks : (r : ℕ) → r < 14242 → slice_index start (lock_at r) ≡ cond {A = ℕ} (opens_free r) 0 2) where
  abbrev flags : List ℕ
  flags = opening_flags setting opening_objects

  -- what the root has of the board, where its rows stand as they opened
  abbrev view_of : List Entry → List Finished → View
  view_of made reads = record (root start) { seats = 2; made = made; reads = reads }

  abbrev moment : List Entry → Moment
  moment log = record { words = start; log = log; had = log; holder = λ _. 0 }

  module _ (log : List Entry) (reads : List Finished) (none : (r : ℕ) → version log r ≡ 0) (still : (r i : ℕ) → stands start log r i ≡ slice_index start (word_at r i))
      (frees : (r : ℕ) → slice_index start (lock_at r) ≡ 0 → is_free start log r ≡ true) (stays : (r : ℕ) → slice_index start (lock_at r) ≡ 2 → is_free start log r ≡ false) (unseen : (r : ℕ) → Each (λ (p : Entry). p.row ≡ r → p.by ≢ 0) log) where
    corner_is : (r : ℕ) → corner (view_of log reads) r ≡ newcomer
    corner_is r = all_same (length start / 17) r newcomer

    fits_new : (r : ℕ) → FitsRow start (moment log) 0 r 0 0 (IsWhole (view_of log reads)) newcomer
    fits_new r = record {
      knows = tt;
      seen = omega arith;
      last = unseen r;
      tied = λ k xs e. absurd (idle_reads k xs e);
      known = λ n e. absurd (no_true e);
      alone = λ _ n e. absurd (no_true e);
    }

    final : (r : ℕ) → r < 14242 → IsFinalRow start (moment log) (view_of log reads) r
    final r low = at (opens_free r) refl where
      at : (b : Bool) → opens_free r ≡ b → IsFinalRow start (moment log) (view_of log reads) r
      at true e =
          let lock : slice_index start (lock_at r) ≡ 0 = locks r low ∙ ap (λ b. cond {A = ℕ} b 0 2) e in
          record {
            counts = omega (arith, lock, none r);
            state = omega (arith, lock);
            content = λ _ i _. sym (still r i);
            free = λ _. frees r lock;
            allocated = λ d. absurd (omega (arith, lock, d));
            held_by = λ d. absurd (omega (arith, lock, d));
          }
      at false e =
          let lock : slice_index start (lock_at r) ≡ 2 = locks r low ∙ ap (λ b. cond {A = ℕ} b 0 2) e in
          record {
            counts = omega (arith, lock, none r);
            state = omega (arith, lock);
            content = λ _ i _. sym (still r i);
            free = λ d. absurd (omega (arith, lock, d));
            allocated = λ _. stays r lock;
            held_by = λ d. absurd (omega (arith, lock, d));
          }

    history : IsChain start log → Each (λ (p : Entry). Floor (shows_to p) log log p.row p.version p.after p.base) log → Rises log → Each (λ (p : Entry). p.action ≤ length (labels_of log)) log → Each (WasRead start (moment log)) reads
        → (let most : ℕ = 140737488355328 in 0 < most + board.total board.step_of log) → History start start (view_of log reads)
    history chain floors rising numbers read some = record {
      t = moment log;
      words_are = refl;
      seat = 0;
      chain = chain;
      once = λ h. refl;
      floors = floors;
      rising = rising;
      numbers = numbers;
      had_is = refl;
      fits = record {
        number_is = refl;
        start_is = refl;
        wide = omega (arith, long, length-replicate (length start / 17) newcomer);
        some_left = some;
        enough = omega (arith, none_held (length start / 17));
        corners = λ r. subst (FitsRow start (moment log) 0 r 0 0 (IsWhole (view_of log reads))) (sym (corner_is r)) (fits_new r);
        inside = inl (refl, ap (λ c. is_holding c.stage) (corner_is 0), λ e. absurd (no_true e));
        ended = omega arith;
        split_at = omega arith;
        reads = read;
        sights = tt;
        entered = tt;
      };
      rows = λ r low. final r (omega (arith, low, long));
    }

  -- before any session
  history_none : History start start (view_of [] [])
  history_none = history [] [] (λ r. refl) (λ r i. refl) (λ r lock. eq-eqb (slice_index start (lock_at r)) 0 lock) (λ r lock. ne_eqb (slice_index start (lock_at r)) 0 (λ z. omega (arith, lock, z))) (λ r. tt) tt tt tt tt tt (omega arith)

  -- and behind the release
  released : (r : ℕ) → slice_index start (lock_at r) ≡ 2 → is_free start (release ∷ []) r ≡ false
  released r lock =
      let apart : 8450 ≢ r = λ z. omega (arith, lock, ap (λ q. slice_index start (lock_at q)) z, locks 8450 (omega arith)) in
      ap (λ b. cond b true (slice_index start (lock_at r) == 0)) (ne_eqb 8450 r apart) ∙ ne_eqb (slice_index start (lock_at r)) 0 (λ z. omega (arith, lock, z))

  history_one : (reads : List Finished) → Each (WasRead start (moment (release ∷ []))) reads → History start start (view_of (release ∷ []) reads)
  history_one reads read =
      history (release ∷ []) reads (λ r. same_if (8450 == r) 0) (λ r i. same_if (8450 == r) (slice_index start (word_at r i)))
      (λ r lock. ap (λ b. cond (8450 == r) true b) (eq-eqb (slice_index start (lock_at r)) 0 lock) ∙ same_if (8450 == r) true) released (λ r. ((λ _ e. absurd (omega (arith, e))), tt)) (
        record {
          numbered = refl;
          found_wide = refl;
          put_wide = refl;
          found_is = λ i low. sym (runs.contents 8450 i (omega arith) (omega arith) low);
          inside = inl refl;
          after_it = omega arith;
          first = λ e. absurd (omega (arith, e));
        },
        tt,
      )
      (record { ended = omega arith; split_at = omega arith; actions = ((λ _ some _. absurd (omega (arith, some))), tt); first = tt }, tt) ((λ some. absurd (omega (arith, some))), tt) (omega arith, tt) read (omega arith)

  read_it : Each (WasRead start (moment (release ∷ []))) (finished ∷ [])
  read_it = (
    record {
      below = omega arith;
      wide = refl;
      content_is = λ i low. sym (runs.contents 135 i (omega arith) (omega arith) low);
      opened = λ _ e. runs.allocated 135 refl e;
      floor = record { ended = omega arith; split_at = omega arith; actions = ((λ _ some _. absurd (omega (arith, some))), tt); first = ((λ e. absurd (omega (arith, e))), tt) };
    },
    tt,
  )

  -- the sessions, and the root
  abbrev begun : ℕ → ℕ → Opening
  begun n behind = record {
    flags = flags;
    board = record { table = table; number = n; stake = 0; base = behind };
    switches = record { table = switches; number = n; stake = 0; base = 0 };
    tickets = record { table = table; number = n; stake = 0; base = 0 };
    words = [];
  }

  abbrev pen : Known
  pen = known switches (opening_pen flags)

  abbrev first : Worked
  first = record { start = begun 1 0; calls = Frees 8450 0 ∷ Takes 8450 0 (replicate 16 0) ∷ Draws 0 0 ∷ [] }

  abbrev meeting : Worked
  meeting = record { start = begun 0 0; calls = Meets pen.view.seen ∷ [] }

  abbrev second : Worked
  second = record { start = begun 2 1; calls = Loads 39 0 (slice_index (opening_words flags) 39) ∷ Reads 135 (Whole 0 zero_words) ∷ [] }

  abbrev load : Loaded
  load = record { by = 2; place = 0; word = 39; version = 0; flags = slice_index (opening_words flags) 39; first = 0; least = 0 }

  -- what the root has of the words: nothing at first, then its own meet, and the load behind that
  abbrev word_view : WordView
  word_view = record spent { live = true; seated = true; start = opening_words flags; seats = 2 }

  abbrev words_then : WordView
  words_then = record word_view { seen = pen.view.seen; loads = load ∷ []; meets = meet_of word_view pen.view ∷ [] }

  never_set : (r : ℕ) → slice_index pen.view.seen r ≡ 0
  never_set r = all_same (length (opening_words flags)) r 0

  told_first : IsTold (opening_words flags) (met word_view pen.view) pen.view
  told_first = record {
    chain = tt;
    counts = λ r low. never_set r;
    loads = tt;
    rising = tt;
    above = tt;
    meets = (record { below = λ r. omega (arith, never_set r); least_is = λ r. omega arith; start_is = refl }, tt);
    seen = λ r. omega (arith, never_set r);
  }

  told_then : IsTold (opening_words flags) (met words_then pen.view) pen.view
  told_then = record {
    chain = tt;
    counts = λ r low. never_set r;
    loads = (record { below = omega arith; flags_are = refl; least_is = omega arith; first_is = omega arith }, tt);
    rising = (tt, tt);
    above = (((λ e. absurd (omega (arith, e))), ((λ e. absurd (omega (arith, e))), tt)), tt);
    meets = (
      record { below = λ r. omega (arith, never_set r); least_is = λ r. omega arith; start_is = refl },
      (record { below = λ r. omega (arith, never_set r); least_is = λ r. omega arith; start_is = refl }, tt),
    );
    seen = λ r. omega (arith, never_set r);
  }

  desk : IsDesk setting change switches [] (opened setting) pen
  desk = fresh_desk setting change switches (opened setting) pen refl refl refl

  hands : (row : ℕ) → hand_in first.calls row ≡ None
  hands row = elim (cases_eq 8450 row) [
    | inl e ↦ rw (eq-eqb 8450 row e) refl
    | inr e ↦ rw (ne_eqb 8450 row e) refl
  ]

  done_first : IsDone first
  done_first = record { outside = refl; empty = λ row some. hands row; rising = (omega arith, (omega arith, (omega arith, tt))); there = (omega arith, (omega arith, (omega arith, tt))) }

  done_meeting : IsDone meeting
  done_meeting = record { outside = refl; empty = λ row some. refl; rising = ((λ at low. omega arith), tt); there = (tt, tt) }

  done_second : IsDone second
  done_second = record { outside = refl; empty = λ row some. refl; rising = (omega arith, (omega arith, tt)); there = (omega arith, (omega arith, tt)) }

  looked_first : AreLooked first.start.board first.calls [] []
  unfolding AreLooked
  looked_first = ([], [], refl, [], [], refl, (refl, refl), ([], [], refl, [], [], refl, (refl, tt), ([], [], refl, [], [], refl, (refl, refl), (refl, refl))))

  looked_meeting : AreLooked meeting.start.board meeting.calls [] []
  unfolding AreLooked
  looked_meeting = ([], [], refl, [], [], refl, (refl, refl), (refl, refl))

  looked_second : AreLooked second.start.board second.calls (finished ∷ []) []
  unfolding AreLooked
  looked_second =
      ([], finished ∷ [], refl, [], [], refl, (refl, refl), (finished ∷ [], [], refl, [], [], refl, ((finished, refl, record { by_is = refl; base_is = refl; row_is = refl; version_is = refl; action_is = refl; after_is = refl }, refl), refl), (refl, refl)))

  gathered_none : AreGathered [] (view_of [] []) word_view (tickets_of 140737488355328 [])
  gathered_none = record { tied = refl; shown = tt; looked = (refl, refl); loaded = refl; met = refl; drawn = refl; done = tt }

  gathered_first : AreGathered (first ∷ []) (view_of (release ∷ []) []) word_view (tickets_of 140737488355327 (ticket ∷ []))
  gathered_first = record {
    tied = (
      release ∷ [],
      [],
      refl,
      (
        omega arith,
        record { by_is = refl; base_is = refl; action_is = refl; after_is = refl; row_is = refl; version_is = refl; puts_is = refl },
        refl,
        refl,
        (omega arith, refl, refl),
      ),
      refl,
    );
    shown = ((tt, (tt, (tt, tt))), tt);
    looked = ([], [], refl, [], [], refl, looked_first, (refl, refl));
    loaded = ([], [], refl, refl, refl);
    met = ([], [], refl, refl, refl);
    drawn = (ticket ∷ [], [], refl, (refl, refl, refl, refl), refl);
    done = (done_first, tt);
  }

  gathered_all : AreGathered (second ∷ meeting ∷ first ∷ []) (view_of (release ∷ []) (finished ∷ [])) words_then (tickets_of 140737488355327 (ticket ∷ []))
  gathered_all = record {
    tied = ([], release ∷ [], refl, refl, ([], release ∷ [], refl, refl, gathered_first.tied));
    shown = (
      (
        tt,
        (
          ((omega arith, omega arith), inl (record { by_is = refl; base_is = refl; row_is = refl; version_is = refl; action_is = refl; after_is = refl }, refl)),
          tt,
        ),
      ),
      ((tt, tt), ((tt, (tt, (tt, tt))), tt)),
    );
    looked = (finished ∷ [], [], refl, [], [], refl, looked_second, ([], [], refl, [], [], refl, looked_meeting, ([], [], refl, [], [], refl, looked_first, (refl, refl))));
    loaded = (load ∷ [], [], refl, (record { by_is = refl; first_is = refl; word_is = refl; version_is = refl; flags_is = refl }, refl), ([], [], refl, refl, ([], [], refl, refl, refl)));
    met = ([], meet_of word_view pen.view ∷ [], refl, refl, (meet_of word_view pen.view ∷ [], [], refl, (refl, refl, refl), ([], [], refl, refl, refl)));
    drawn = ([], ticket ∷ [], refl, refl, ([], ticket ∷ [], refl, refl, gathered_first.drawn));
    done = (done_second, (done_meeting, (done_first, tt)));
  }

  -- the three ends
  end_none : PhaseEnd setting change switches start []
  unfolding history_none history
  end_none = record {
    words = start;
    seat = view_of [] [];
    known = word_view;
    draws = tickets_of 140737488355328 [];
    gathered = gathered_none;
    empty = none_held (length start / 17);
    history = history_none;
    admin = opened setting;
    pen = pen;
    desk = desk;
    told = told_first;
    complete = none_drawn;
    keep = tt;
  }

  end_first : PhaseEnd setting change switches start (first ∷ [])
  unfolding history_one history
  end_first = record {
    words = start;
    seat = view_of (release ∷ []) [];
    known = word_view;
    draws = tickets_of 140737488355327 (ticket ∷ []);
    gathered = gathered_first;
    empty = none_held (length start / 17);
    history = history_one [] tt;
    admin = opened setting;
    pen = pen;
    desk = desk;
    told = told_first;
    complete = one_drawn;
    keep = ((tt, (tt, (tt, tt))), tt);
  }

  end_all : PhaseEnd setting change switches start (second ∷ meeting ∷ first ∷ [])
  unfolding history_one history
  end_all = record {
    words = start;
    seat = view_of (release ∷ []) (finished ∷ []);
    known = words_then;
    draws = tickets_of 140737488355327 (ticket ∷ []);
    gathered = gathered_all;
    empty = none_held (length start / 17);
    history = history_one (finished ∷ []) read_it;
    admin = opened setting;
    pen = pen;
    desk = desk;
    told = told_then;
    complete = one_drawn;
    keep = (((omega arith, refl), (tt, tt)), ((((λ some. absurd (omega (arith, some))), (λ e. refl)), tt), ((tt, (tt, (tt, tt))), tt)));
  }

  abbrev phases : List Phase
  phases = record { actors = second ∷ []; own = meeting ∷ [] } ∷ record { actors = first ∷ []; own = [] } ∷ []

  -- neither session met the writer
  two_ended : AreEnded setting change switches start phases
  unfolding end_none end_first end_all
  two_ended = (
    record {
      first = end_first;
      last = end_all;
      own = (tt, tt);
      began = (record { base = refl; words = λ at low. omega (arith, never_set at); inside = λ more earlier versions is. absurd (none_behind more earlier versions (subst NoMeets is tt)) }, tt);
    },
    (
      record {
        first = end_none;
        last = end_first;
        own = tt;
        began = (record { base = refl; words = λ at low. omega (arith, never_set at); inside = λ more earlier versions is. absurd (none_behind more earlier versions (subst NoMeets is tt)) }, tt);
      },
      tt,
    ),
  )

  -- so they share
  pub two_shared : SharedLaw → AllShared flags phases
  two_shared shares = shares setting change switches start phases runs two_ended
