-- Two actors of which the laws of a root that is alone speak: one draws a ticket, and then takes a ring place that was
-- never written to and frees it; the other, whose seat was split off behind that, reads a cell and then loads a word.
use Rattle.std.proofs.Common.{ℕ, ◌≡◌, ◌≢◌, ◌*◌, ◌/◌, ◌==◌, ◌<◌, not, Bool, true, false, cond, List, [], ◌∷◌, ◌++◌, length, replicate, slice_index, get_or, None, refl, ap, sym, ◌∙◌, subst, inl, inr, arith, eq-eqb, ne_eqb}
use Rattle.std.proofs.lemmas.Bool.{cases_eq}
use Rattle.std.proofs.lemmas.List.{get_or-replicate, get_or_past, length-replicate}
use Rattle.atomic_table.specs.Seated.{TableId}
use Rattle.pfs_board.specs.declared.answers.Opening.{Opening as FirstRow}
use Rattle.pfs_board.specs.declared.view.Change.{Change}
use Rattle.pfs_board.specs.declared.view.Finished.{Finished}
use Rattle.pfs_board.specs.declared.view.Stage.TheVariants.{Idle, Reading}
use Rattle.pfs_board.specs.declared.view.View.{View}
use Rattle.pfs_board.specs.WholeSeats.{History, IsFinalRow}
use Rattle.pfs_board.specs.History.{version, lock_at, word_at, labels_of}
use Rattle.pfs_board.specs.Knowledge.{no_label, newcomer, corner, is_holding, held, root, IsWhole}
use Rattle.pfs_board.specs.OpeningWords.{opening_words, row_of, AreWide, AreOpened}
use Rattle.pfs_board.specs.Rule.{Moment, FitsRow}
use Rattle.pfs_board.proofs.OpeningFacts.{opening_law}
use Rattle.pfs_board.specs.declared.view.Label.{Label}
use Rattle.pfs_levels.specs.Calls.{Call, Reads, Loads, Draws, Takes, Frees, Sets, Enters, Leaves, Meets, Opening, hand_in}
use Rattle.pfs_levels.specs.RowWords.{zero_words}
use Rattle.pfs_levels.specs.JointCalls.{total, opens_free, Draw, sets_of, word_version, all_calls, Joint}
use Rattle.pfs_levels.specs.CallOrder.{Mark, mark, marks_of, all_marks, word_marks_of, all_word_marks, above, top_word, AllCalls, Order}
use Rattle.pfs_rows.specs.declared.table.Seen.TheVariants.{Whole}
use Rattle.pfs_board_store.specs.Looks.{AreLooked}
use Rattle.pfs_board_store.specs.RootActors.{Worked, AreGathered, IsDone, ats_of, marks_in}
use Rattle.pfs_board_store.specs.RootLaws.{content_of, settings_in, IsFirstRow, IsRunsBoard, AreWritten, AllKnowSets}
use Rattle.pfs_board_store.proofs.ActionCalls.{held_none}
use Rattle.pfs_board_store.proofs.Openings.{all_wide, board_long, opened}
use Rattle.pfs_board_store.proofs.VersionContents.{opening_wide}
use Rattle.pfs_levels.specs.PhaseFloors.{AllSince}
use Rattle.pfs_board_store.specs.ActorPhases.{IsLater}
use Rattle.pfs_board_store.proofs.CallOrder.{ordered}
use Rattle.pfs_board_store.proofs.ActorPhases.{later}
use Rattle.pfs_board_store.proofs.TicketOrder.{lt_cases}
use Rattle.pfs_board_store.proofs.JointCalls.{joint}
use Rattle.pfs_switches.specs.declared.view.Loaded.{Loaded}
use Rattle.pfs_switches.specs.declared.view.View.{View as WordView}
use Rattle.pfs_switches.specs.SharedKnowledge.{IsTold}
use Rattle.pfs_switches.specs.Knowledge.{spent, whole, writer, met}
use Rattle.pfs_switches.specs.OpeningWords.{opening_words as flag_words}
use Rattle.pfs_tickets.specs.declared.view.Drawn.{Drawn}
use Rattle.pfs_tickets.specs.declared.view.View.{View as TicketView}
use Rattle.pfs_tickets.specs.WholeSeats.{IsComplete}

same_if : {A : Type 0} (b : Bool) (x : A) → cond b x x ≡ x
same_if true x = refl
same_if false x = refl

idle_reads : (k : ℕ) (xs : List ℕ) → Idle ≡ Reading k xs → ⊥
idle_reads k xs e = cc

no_true : false ≡ true → ⊥
no_true e = cc

all_same : {A : Type 0} (n i : ℕ) (x : A) → get_or (replicate n x) i x ≡ x
all_same n i x = elim (lt_cases i n) [
  | inl e ↦ get_or-replicate n i x x e.0
  | inr e ↦ get_or_past (replicate n x) i x (omega (arith, e.0, length-replicate n x))
]

abbrev change : Change
change = record {
  by = 2;
  row = 8450;
  version = 0;
  puts = false;
  action = 0;
  after = 0;
  base = 0;
  label = no_label;
  found = replicate 16 0;
  put = replicate 16 0;
}

abbrev finished : Finished
finished = record { by = 1; row = 135; version = 0; action = 0; after = 0; base = 1; content = zero_words }

abbrev history_of : List Change
history_of = change ∷ []

abbrev ticket : Drawn
ticket = record { by = 2; kind = 0; ticket = 0 }

-- what the root has of the tickets
abbrev ticket_view : TicketView
ticket_view = record { live = true; number = 0; seats = 2; draws = 140737488355327; said = 0; tickets = ticket ∷ [] }

complete : IsComplete ticket_view
complete = record {
  kinds = (omega arith, tt);
  once = λ k n low few. elim (cases_eq 0 k) [
    | inl e ↦ let none : 0 ≡ n = omega (arith, few, ap (λ b. cond {A = ℕ} b 1 0) (eq-eqb 0 k e)) in rw (eq-eqb 0 k e, eq-eqb 0 n none) refl
    | inr e ↦ absurd (omega (arith, few, ap (λ b. cond {A = ℕ} b 1 0) (ne_eqb 0 k e)))
  ];
  never = λ k n low many. elim (cases_eq 0 k) [
    | inl e ↦ let some : 0 ≢ n = λ z. omega (arith, z, many, ap (λ b. cond {A = ℕ} b 1 0) (eq-eqb 0 k e)) in rw (eq-eqb 0 k e, ne_eqb 0 n some) refl
    | inr e ↦ rw (ne_eqb 0 k e) refl
  ];
  rising = (tt, tt);
  sum = refl;
}

module _ (rows : List FirstRow) (many : length rows ≡ 14242) (each : (row : ℕ) → row < 14242 → IsFirstRow row (row_of rows row)) (flags : List ℕ) (table : TableId) where
  abbrev start : List ℕ
  start = opening_words rows

  runs : IsRunsBoard (opening_words rows)
  runs = opened rows many each

  wide : AreWide rows
  wide = all_wide rows (λ row low. ap (λ (z : List ℕ). length z) (each row (omega (arith, low, many))).1 ∙ opening_wide _)

  long : length start ≡ 17 * 14242
  long = board_long rows wide ∙ ap (λ n. 17 * n) many

  lock_is : (r : ℕ) → r < 14242 → slice_index start (lock_at r) ≡ cond {A = ℕ} (opens_free r) 0 2
  lock_is r low =
      let a : AreOpened rows = opening_law rows (omega (arith, many)) wide in
      elim (cases_eq r 0) [
        | inl e ↦ let P : ℕ → Type 0 = λ z. slice_index start (lock_at z) ≡ cond {A = ℕ} (opens_free z) 0 2 in subst P (sym e) a.first
        | inr e ↦ a.locks r (omega (arith, e)) (omega (arith, low, many)) ∙ ap (λ b. cond {A = ℕ} b 2 0) (each r low).0 ∙ turned (opens_free r)
      ] where
        turned : (b : Bool) → cond {A = ℕ} (not b) 2 0 ≡ cond {A = ℕ} b 0 2
        turned true = refl
        turned false = refl

  -- what the root has of the board
  abbrev board_view : View
  board_view = record (root (opening_words rows)) { seats = 2; made = history_of; reads = finished ∷ [] }

  abbrev moment : Moment
  moment = record { words = opening_words rows; log = history_of; had = history_of; holder = λ _. 0 }

  none : (r : ℕ) → version history_of r ≡ 0
  none r = same_if (8450 == r) 0

  corner_is : (r : ℕ) → corner board_view r ≡ newcomer
  corner_is r = all_same (length start / 17) r newcomer

  empty : held board_view.rows ≡ 0
  empty = held_none board_view.rows (λ r. ap (λ c. Rattle.pfs_board_store.specs.ActorCalls.in_hand c.stage) (corner_is r))

  fits_new : (r : ℕ) → FitsRow start moment 0 r 0 0 (IsWhole board_view) newcomer
  fits_new r = record {
    knows = tt;
    seen = omega arith;
    last = ((λ _ e. absurd (omega (arith, e))), tt);
    tied = λ k xs e. absurd (idle_reads k xs e);
    known = λ n e. absurd (no_true e);
    alone = λ _ n e. absurd (no_true e);
  }

  final : (r : ℕ) → r < 14242 → IsFinalRow start moment board_view r
  final r low = at (opens_free r) refl where
    at : (b : Bool) → opens_free r ≡ b → IsFinalRow start moment board_view r
    at true e =
        let zero : slice_index start (lock_at r) ≡ 0 = lock_is r low ∙ ap (λ b. cond {A = ℕ} b 0 2) e in
        record {
          counts = omega (arith, zero, none r);
          state = omega (arith, zero);
          content = λ _ i _. sym (same_if (8450 == r) (slice_index start (word_at r i)));
          free = λ _. ap (λ b. cond (8450 == r) true b) (eq-eqb (slice_index start (lock_at r)) 0 zero) ∙ same_if (8450 == r) true;
          allocated = λ d. absurd (omega (arith, zero, d));
          held_by = λ d. absurd (omega (arith, zero, d));
        }
    at false e =
        let two : slice_index start (lock_at r) ≡ 2 = lock_is r low ∙ ap (λ b. cond {A = ℕ} b 0 2) e in
        let apart : 8450 ≢ r = λ z. no_true (sym e ∙ sym (ap opens_free z)) in
        record {
          counts = omega (arith, two, none r);
          state = omega (arith, two);
          content = λ _ i _. sym (same_if (8450 == r) (slice_index start (word_at r i)));
          free = λ d. absurd (omega (arith, two, d));
          allocated = λ _. ap (λ b. cond b true (slice_index start (lock_at r) == 0)) (ne_eqb 8450 r apart) ∙ ne_eqb (slice_index start (lock_at r)) 0 (λ z. omega (arith, two, z));
          held_by = λ d. absurd (omega (arith, two, d));
        }

  history : History start start board_view
  history = record {
    t = moment;
    words_are = refl;
    seat = 0;
    chain = (
      record {
        numbered = refl;
        found_wide = refl;
        put_wide = refl;
        found_is = λ i low. sym (runs.contents 8450 i (omega arith) (omega arith) low);
        inside = inl refl;
        after_it = omega arith;
        first = λ e. absurd (omega (arith, e));
      },
      tt,
    );
    once = λ h. refl;
    floors = (record { ended = omega arith; split_at = omega arith; actions = ((λ _ some _. absurd (omega (arith, some))), tt); first = tt }, tt);
    rising = ((λ some. absurd (omega (arith, some))), tt);
    numbers = (omega arith, tt);
    had_is = refl;
    fits = record {
      number_is = refl;
      start_is = refl;
      wide = omega (arith, long, length-replicate (length start / 17) newcomer);
      some_left = omega arith;
      enough = omega (arith, empty);
      corners = λ r. subst (FitsRow start moment 0 r 0 0 (IsWhole board_view)) (sym (corner_is r)) (fits_new r);
      inside = inl (refl, ap (λ c. is_holding c.stage) (corner_is 0), λ e. absurd (no_true e));
      ended = omega arith;
      split_at = omega arith;
      reads = (
        record {
          below = omega arith;
          wide = refl;
          content_is = λ i low. sym (runs.contents 135 i (omega arith) (omega arith) low);
          opened = λ _ e. runs.allocated 135 refl e;
          floor = record { ended = omega arith; split_at = omega arith; actions = ((λ _ some _. absurd (omega (arith, some))), tt); first = ((λ e. absurd (omega (arith, e))), tt) };
        },
        tt,
      );
      sights = tt;
      entered = tt;
    };
    rows = λ r low. final r (omega (arith, low, long));
  }

  abbrev begun : ℕ → ℕ → Opening
  begun n behind = record {
    flags = flags;
    board = record { table = table; number = n; stake = 0; base = behind };
    switches = record { table = table; number = n; stake = 0; base = 0 };
    tickets = record { table = table; number = n; stake = 0; base = 0 };
    words = [];
  }

  abbrev flags_then : ℕ
  flags_then = slice_index (flag_words flags) 39

  abbrev reading : List Call
  reading = Loads 39 0 (slice_index (flag_words flags) 39) ∷ Reads 135 (Whole 0 zero_words) ∷ []

  abbrev freeing : List Call
  freeing = Frees 8450 0 ∷ Takes 8450 0 (replicate 16 0) ∷ Draws 0 0 ∷ []

  abbrev both : List Worked
  both = record { start = begun 1 1; calls = reading } ∷ record { start = begun 2 0; calls = freeing } ∷ []

  abbrev load : Loaded
  load = record { by = 1; place = 0; word = 39; version = 0; flags = slice_index (flag_words flags) 39; first = 0; least = 0 }

  -- what the root has of the words, and the writer
  abbrev word_view : WordView
  word_view = record spent { live = true; seated = true; start = flag_words flags; seats = 2; loads = load ∷ [] }

  abbrev pen : WordView
  pen = writer (whole (flag_words flags))

  never_set : (r : ℕ) → slice_index pen.seen r ≡ 0
  never_set r = all_same (length (flag_words flags)) r 0

  told : IsTold (flag_words flags) (met word_view pen) pen
  told = record {
    chain = tt;
    counts = λ r low. never_set r;
    loads = (record { below = omega arith; flags_are = refl; least_is = omega arith; first_is = omega arith }, tt);
    rising = (tt, tt);
    above = (((λ e. absurd (omega (arith, e))), tt), tt);
    meets = (record { below = λ r. omega (arith, never_set r); least_is = λ r. omega arith; start_is = refl }, tt);
    seen = λ r. omega (arith, never_set r);
  }

  done_reading : IsDone (record { start = begun 1 1; calls = reading })
  done_reading = record { outside = refl; empty = λ row some. refl; rising = (omega arith, (omega arith, tt)); there = (omega arith, (omega arith, tt)) }

  hands : (row : ℕ) → hand_in freeing row ≡ None
  hands row = elim (cases_eq 8450 row) [
    | inl e ↦ rw (eq-eqb 8450 row e) refl
    | inr e ↦ rw (ne_eqb 8450 row e) refl
  ]

  done_freeing : IsDone (record { start = begun 2 0; calls = freeing })
  done_freeing = record { outside = refl; empty = λ row some. hands row; rising = (omega arith, (omega arith, (omega arith, tt))); there = (omega arith, (omega arith, (omega arith, tt))) }

  -- the reader looked once at its row, and the other actor took its own at the first try
  looked_reading : AreLooked (begun 1 1).board reading (finished ∷ []) []
  unfolding AreLooked
  looked_reading =
      ([], finished ∷ [], refl, [], [], refl, (refl, refl), (finished ∷ [], [], refl, [], [], refl, ((finished, refl, record { by_is = refl; base_is = refl; row_is = refl; version_is = refl; action_is = refl; after_is = refl }, refl), refl), (refl, refl)))

  looked_freeing : AreLooked (begun 2 0).board freeing [] []
  unfolding AreLooked
  looked_freeing = ([], [], refl, [], [], refl, (refl, refl), ([], [], refl, [], [], refl, (refl, tt), ([], [], refl, [], [], refl, (refl, refl), (refl, refl))))

  gathered : AreGathered both board_view word_view ticket_view
  gathered = record {
    tied = (
      [],
      history_of,
      refl,
      refl,
      (
        history_of,
        [],
        refl,
        (
          omega arith,
          record { by_is = refl; base_is = refl; action_is = refl; after_is = refl; row_is = refl; version_is = refl; puts_is = refl },
          refl,
          refl,
          (omega arith, refl, refl),
        ),
        refl,
      ),
    );
    shown = (
      (
        tt,
        (
          ((omega arith, omega arith), inl (record { by_is = refl; base_is = refl; row_is = refl; version_is = refl; action_is = refl; after_is = refl }, refl)),
          tt,
        ),
      ),
      ((tt, (tt, (tt, tt))), tt),
    );
    looked = (finished ∷ [], [], refl, [], [], refl, looked_reading, ([], [], refl, [], [], refl, looked_freeing, (refl, refl)));
    loaded = (load ∷ [], [], refl, (record { by_is = refl; first_is = refl; word_is = refl; version_is = refl; flags_is = refl }, refl), ([], [], refl, refl, refl));
    met = ([], [], refl, refl, ([], [], refl, refl, refl));
    drawn = ([], ticket ∷ [], refl, refl, (ticket ∷ [], [], refl, (refl, refl, refl, refl), refl));
    done = (done_reading, (done_freeing, tt));
  }

  written : AreWritten (reading ∷ freeing ∷ []) pen.sets
  unfolding sets_of all_calls settings_in
  written h = refl

  known : AllCalls (AllKnowSets (all_word_marks (reading ∷ freeing ∷ []))) (reading ∷ freeing ∷ [])
  known = (((omega arith, refl), (tt, tt)), ((tt, (tt, (tt, tt))), tt))

  -- the premises of both laws hold of them together
  pub two_joint : (draws : List Draw) × Joint flags (reading ∷ freeing ∷ []) (content_of start history_of) (ats_of history_of) (settings_in pen.sets) draws
  unfolding history
  two_joint = joint flags start start board_view word_view pen ticket_view both gathered runs history told written complete

  pub two_ordered : (sets : List Mark) × Order (reading ∷ freeing ∷ []) (marks_in history_of) sets (labels_of history_of)
  unfolding history
  two_ordered = ordered flags start start board_view word_view pen ticket_view both gathered runs empty history told written known

  -- the reader's seat was split off behind the release
  behind_it : IsLater (freeing ∷ []) (record { start = begun 1 1; calls = reading })
  unfolding marks_of all_marks sets_of all_calls word_version
  behind_it = record { base = refl; words = λ at. omega arith; met = (tt, (tt, tt)) }

  pub one_later : AllSince (freeing ∷ []) (reading ∷ [])
  unfolding history
  one_later = later flags start start board_view word_view pen ticket_view (record { start = begun 2 0; calls = freeing } ∷ []) (record { start = begun 1 1; calls = reading } ∷ []) gathered runs history told (behind_it, tt)

-- Two actors that set word 39, the one in action 1 and the other in action 2, which meets the writer at version 1. What
-- is asked of sets holds of them; it doesn't hold where the second meets the writer at version 0
abbrev setting : ℕ → List ℕ → List Label → ℕ → ℕ → List Call
setting session versions before k to = Leaves ∷ Sets 39 to k ∷ Meets versions ∷ Enters (record { session = session; line = 1 }) before ∷ []

abbrev versions_of : ℕ → List ℕ
versions_of k = replicate 39 0 ++ (k ∷ replicate 121 0)

abbrev setters : ℕ → List (List Call)
setters k = setting 2 (versions_of k) (record { session = 1; line = 1 } ∷ []) 2 3 ∷ setting 1 (versions_of 0) [] 1 1 ∷ []

pub two_written : AreWritten (setters 1) (record { word = 39; version = 2; flags = 3 } ∷ record { word = 39; version = 1; flags = 1 } ∷ [])
unfolding sets_of all_calls settings_in
two_written h = refl

abbrev two_marks : List Mark
two_marks = mark 39 2 true 2 1 ∷ mark 39 1 true 1 0 ∷ []

-- of no other word anything was set
elsewhere : (at k after : ℕ) → 39 ≢ at → above two_marks at k after ≡ 0
unfolding total
elsewhere at k after e = rw (ne_eqb 39 at e) refl

none_above : (f : ℕ → ℕ) (after : ℕ) → above two_marks 39 (f 39) after ≡ 0 → (at : ℕ) → above two_marks at (f at) after ≡ 0
none_above f after here at = elim (cases_eq 39 at) [
  | inl e ↦ let P : ℕ → Type 0 = λ z. above two_marks z (f z) after ≡ 0 in subst P e here
  | inr e ↦ elsewhere at (f at) after e
]

marks_are : (k : ℕ) → all_word_marks (setters k) ≡ two_marks
unfolding all_word_marks word_marks_of
marks_are k = refl

two_known_of : AllCalls (AllKnowSets two_marks) (setters 1)
unfolding total
two_known_of = (
  (
    (λ _ at low. none_above (λ z. top_word (Sets 39 3 2 ∷ Meets (versions_of 1) ∷ []) z) 2 refl at),
    ((omega arith, refl), ((λ at low. none_above (λ z. slice_index (versions_of 1) z) 1 refl at), (tt, tt))),
  ),
  (
    (
      (λ _ at low. none_above (λ z. top_word (Sets 39 1 1 ∷ Meets (versions_of 0) ∷ []) z) 1 refl at),
      ((omega arith, refl), ((λ at low. none_above (λ z. slice_index (versions_of 0) z) 0 refl at), (tt, tt))),
    ),
    tt,
  ),
)

pub two_known : AllCalls (AllKnowSets (all_word_marks (setters 1))) (setters 1)
two_known = let P : List Mark → Type 0 = λ z. AllCalls (AllKnowSets z) (setters 1) in subst P (sym (marks_are 1)) two_known_of

one_not_none : (let one : ℕ = 1 in one ≡ 0) → ⊥
one_not_none e = cc

late_of : AllCalls (AllKnowSets two_marks) (setters 0) → ⊥
unfolding total
late_of h = one_not_none (h.0.1.1.0 39 (omega arith))

pub one_meets_late : ¬ (AllCalls (AllKnowSets (all_word_marks (setters 0))) (setters 0))
one_meets_late h = let P : List Mark → Type 0 = λ z. AllCalls (AllKnowSets z) (setters 0) in late_of (subst P (marks_are 0) h)
