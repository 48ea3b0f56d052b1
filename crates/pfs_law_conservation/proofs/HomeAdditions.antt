-- Each event of a kind is added once, at its home, between its session's connect and quit.
use Rattle.std.proofs.Common.{◌≡◌, refl, ℕ, suc, ◌^◌, ◌<◌, ◌≤◌, ◌==◌, ◌&&◌, Bool, true, false, cond, List, [], ◌∷◌, length, Option, Some, None, count_by, sym, ap, subst, ◌∙◌, ◌⊎◌, inl, inr, arith}
use Rattle.std.proofs.lemmas.Bool.{and_parts, eqb-true}
use Rattle.pfs_lemmas.proofs.Numbers.{eq_swap}
use Rattle.pfs_board.specs.declared.view.Label.{Label}
use Rattle.pfs_conservation.specs.AdministrationFold.{Quit, numbered, state_after}
use Rattle.pfs_conservation.specs.RowChains.{Change as Moved, Added}
use Rattle.pfs_conservation.specs.PlaceFolds.{Session, entry_at}
use Rattle.pfs_conservation.specs.PrintedChanges.{Stands, IsMove, action_of, Adding, QuitAbove, IsAdded, AreAdded, times_added, AllOnce}
use Rattle.pfs_conservation.specs.Prints.{AreActed}
use Rattle.pfs_conservation.specs.CellHolders.{opened_by}
use Rattle.pfs_conservation.specs.KindSummaries.{home_at}
use Rattle.pfs_conservation.specs.Tenures.{IsBy}
use Rattle.pfs_event.specs.Verdicts.{is_let_through}
use Rattle.pfs_event.specs.declared.verdict.Verdict.{Verdict}
use Rattle.pfs_event.specs.declared.verdict.Verdict.TheVariants.{Attributed}
use Rattle.pfs_model.specs.Actions.{IsAmong}
use Rattle.pfs_model.specs.ActionAsks.{Rooms}
use Rattle.pfs_model.specs.Chains.{Each, times, action_change, each_of, row_change}
use Rattle.pfs_model.specs.Contexts.{brought}
use Rattle.pfs_model.specs.Floors.{by_actions, greatest}
use Rattle.pfs_model.specs.EntryPlaces.{Placed, places}
use Rattle.pfs_model.specs.Shapes.{counted_slot}
use Rattle.pfs_event.specs.declared.entry.Entry.TheVariants as says
use Rattle.pfs_rows.specs.declared.table.TableKind.{TableKind}
use Rattle.pfs_runs.specs.Labels.{rooms_at}
use Rattle.pfs_law_conservation.specs.RunActions.{labels_so_far, action_for, names_by, names_in, moves_at}
use Rattle.pfs_law_conservation.specs.KindRows.{is_kind_row, cells_of, limits_of}
use Rattle.pfs_law_conservation.specs.RunEvents.{event_number, Ended, number_of, all_ended, counts_in, given_by, connects_at, first_of, quit_in, or_none, session_of, whose_at, whose_by, whose_if}
use Rattle.pfs_law_conservation.specs.Premises.{AreKept, IsOrderly}
use Rattle.pfs_law_conservation.specs.RunTerms.{Run, entries_to, actions_to, rows_by, lines_to, events_to, whose_to}
use Rattle.pfs_law_conservation.specs.KindLines.{brought_by, all_lines}
use Rattle.pfs_law_conservation.proofs.AdditionCounts.{numbers_count, IsOne, one_is, one_of, each_among}
use Rattle.pfs_law_conservation.proofs.AdditionFloors.{move_known, stands_chosen, IsAddition, addition_is, IsOver, place_among}
use Rattle.pfs_law_conservation.proofs.HeldAdditions.{added_on, added_off, numbers_other}
use Rattle.pfs_law_conservation.proofs.IdleAdditions.{IsIdle}
use Rattle.pfs_law_conservation.proofs.SingleAdditions.{all_once}
use Rattle.pfs_law_conservation.proofs.SingleQuits.{no_other_quit}
use Rattle.pfs_law_conservation.proofs.HomeRows.{AreNone, low_row, IsLowEnded, home_kind, home_is}
use Rattle.pfs_law_conservation.proofs.RunEntries.{run_counts, run_once, run_ended_low, run_number, run_own, run_known, run_label, run_acting, run_idle, run_over}
use Rattle.pfs_law_conservation.proofs.ConnectSlots.{IsSeated, seated_there}
use Rattle.pfs_law_conservation.proofs.FirstConnects.{rooms_told, IsTold, IsKnown, IsOwn, IsFirstConnect, IsBehindConnect}
use Rattle.pfs_law_conservation.proofs.AdditionSources.{is_feed}
use Rattle.pfs_law_conservation.proofs.PlaceFolds.{length_as, front_length}
use Rattle.pfs_law_conservation.proofs.EventOffers.{home_row, comes_to}
use Rattle.pfs_law_conservation.proofs.SlotMoves.{AreBack, AreFound}
use Rattle.pfs_law_conservation.proofs.RowLines.{sifted}

pub counted_some : (slot : Option ℕ) (verdict : Verdict) (n : ℕ) → counted_slot slot verdict ≡ Some n → slot ≡ Some n
counted_some slot Attributed n q = q
counted_some slot _ n q = absurd (cc)

module _ (back : AreBack) (found : AreFound) (none : AreNone) (run : Run) (kind : TableKind) (phase : ℕ) (kept : AreKept run) (orderly : IsOrderly run)
    (acted : AreActed run.counted (moves_at run.setting kind (actions_to run phase)) (length (actions_to run phase)) (lines_to run kind phase)) where
  abbrev ps : List Placed
  ps = entries_to run phase

  abbrev test : ℕ → Bool
  test = is_kind_row (cells_of run.setting kind)

  abbrev counts : Ended → Bool
  counts = counts_in (cells_of run.setting kind)

  abbrev rooms : ℕ → Rooms
  rooms = rooms_at run.setting run.change run.labels

  -- an event that is added to a row of the kind is one of its events
  known_once : (session index row : ℕ) → test row ≡ true → 1 ≤ times_added (event_number session index) (all_lines (entries_to run phase)) row → count_by (λ y. event_number session index == y) (events_to run kind phase) ≡ 1
  known_once session index row t l =
      let c : times_added (event_number session index) (all_lines (entries_to run phase)) row ≡ times (comes_to (event_number session index) row) (all_ended (entries_to run phase)) = run_counts run kept orderly phase session index row (low_row back found none (cells_of run.setting kind) row t) in
      let o : IsOne (event_number session index) (λ one. is_let_through one.event.verdict && (home_row one == row)) (all_ended (entries_to run phase))
      = one_is (event_number session index) (λ one. is_let_through one.event.verdict && (home_row one == row)) (all_ended (entries_to run phase)) (run_once run kept orderly phase session index) (omega (arith, c, l)) in
      let p : (is_let_through o.one.event.verdict ≡ true) × ((home_row o.one == row) ≡ true) = and_parts (is_let_through o.one.event.verdict) (home_row o.one == row) o.passes in
      let w : IsLowEnded o.one = each_among IsLowEnded o.one (all_ended (entries_to run phase)) o.among (run_ended_low run kept orderly phase) in
      let h : cells_of run.setting kind o.one.event.subject.cell ≡ true = sym (home_kind back (cells_of run.setting kind) o.one w) ∙ (ap (is_kind_row (cells_of run.setting kind)) (eqb-true (home_row o.one) row p.1) ∙ t) in
      numbers_count (event_number session index) (counts_in (cells_of run.setting kind)) (all_ended (entries_to run phase)) ∙ (o.those (counts_in (cells_of run.setting kind)) ∙ one (is_let_through o.one.event.verdict) (cells_of run.setting kind o.one.event.subject.cell) p.0 h) where
        one : (a b : Bool) → a ≡ true → b ≡ true → cond {A = ℕ} (a && b) 1 0 ≡ 1
        one true true q r = refl
        one true false q r = absurd (cc)
        one false b q r = absurd (cc)

  pub once_all : AllOnce (events_to run kind phase) (lines_to run kind phase)
  once_all = all_once (events_to run kind phase) (is_kind_row (cells_of run.setting kind)) (entries_to run phase) known_once

  -- the event of a number
  abbrev Event : ℕ → Type 0
  Event event = IsOne event (counts_in (cells_of run.setting kind)) (all_ended (entries_to run phase))

  pub event_of : (event : ℕ) → 1 ≤ count_by (λ y. event == y) (events_to run kind phase) → IsOne event (counts_in (cells_of run.setting kind)) (all_ended (entries_to run phase))
  event_of event l = one_of event (counts_in (cells_of run.setting kind)) (all_ended (entries_to run phase)) (run_once run kept orderly phase) l

  whose_is : (event : ℕ) (o : IsOne event (counts_in (cells_of run.setting kind)) (all_ended (entries_to run phase))) → whose_to run phase event ≡ whose_by (names_by run.change) (entries_to run phase) o.one
  whose_is event o = ap (whose_if (names_by run.change) (entries_to run phase)) o.found

  home_of : (event : ℕ) (o : IsOne event (counts_in (cells_of run.setting kind)) (all_ended (entries_to run phase))) → home_at (rows_by run kind) (whose_to run phase event) ≡ home_row o.one
  home_of event o = ap (home_at (rows_by run kind)) (whose_is event o) ∙ home_is (cells_of run.setting kind) (names_by run.change) (entries_to run phase) o.one

  home_in : (event : ℕ) (o : IsOne event (counts_in (cells_of run.setting kind)) (all_ended (entries_to run phase))) → test (home_row o.one) ≡ true
  home_in event o =
      home_kind back (cells_of run.setting kind) o.one (each_among IsLowEnded o.one (all_ended (entries_to run phase)) o.among (run_ended_low run kept orderly phase))
      ∙ (and_parts (is_let_through o.one.event.verdict) (cells_of run.setting kind o.one.event.subject.cell) o.passes).1

  -- each event is added at its home, once
  counted_of : (event row : ℕ) (o : IsOne event (counts_in (cells_of run.setting kind)) (all_ended (entries_to run phase))) → times_added event (lines_to run kind phase) row ≡ cond {A = ℕ} (row == home_row o.one) 1 0
  counted_of event row o = at (test row) refl where
    through : is_let_through o.one.event.verdict ≡ true
    through = (and_parts (is_let_through o.one.event.verdict) (cells_of run.setting kind o.one.event.subject.cell) o.passes).0

    at : (b : Bool) → test row ≡ b → times_added event (lines_to run kind phase) row ≡ cond {A = ℕ} (row == home_row o.one) 1 0
    at true t =
        added_on (is_kind_row (cells_of run.setting kind)) event row (all_lines (entries_to run phase)) t
        ∙ (subst (λ n. times_added n (all_lines (entries_to run phase)) row ≡ times (comes_to n row) (all_ended (entries_to run phase))) o.number (run_counts run kept orderly phase o.one.session o.one.event.index row (low_row back found none (cells_of run.setting kind) row t))
        ∙ (o.those (λ one. is_let_through one.event.verdict && (home_row one == row))
        ∙ (ap (λ b. cond {A = ℕ} (b && (home_row o.one == row)) 1 0) through ∙ ap (λ b. cond {A = ℕ} b 1 0) (eq_swap (home_row o.one) row))))
    at false t =
        added_off (is_kind_row (cells_of run.setting kind)) event row (all_lines (entries_to run phase)) t
        ∙ sym (ap (λ b. cond {A = ℕ} b 1 0) (apart (row == home_row o.one) refl)) where
          apart : (b : Bool) → (row == home_row o.one) ≡ b → b ≡ false
          apart true q = absurd (let e : test row ≡ true = ap (is_kind_row (cells_of run.setting kind)) (eqb-true row (home_row o.one) q) ∙ home_in event o in let k : false ≡ true = sym t ∙ e in cc)
          apart false q = refl

  pub counted_all : (event : ℕ) → 1 ≤ count_by (λ y. event == y) (events_to run kind phase) → (row : ℕ) → times_added event (lines_to run kind phase) row ≡ cond {A = ℕ} (row == home_at (rows_by run kind) (whose_to run phase event)) 1 0
  counted_all event l row = let o : IsOne event (counts_in (cells_of run.setting kind)) (all_ended (entries_to run phase)) = event_of event l in counted_of event row o ∙ ap (λ n. cond {A = ℕ} (row == n) 1 0) (sym (home_of event o))

  many_actions : length (actions_to run phase) ≡ length (each_of action_change (entries_to run phase))
  many_actions =
      length_as (λ (label : Label). action_for label.session (run.change label)) (labels_so_far run.labels (entries_to run phase))
      ∙ front_length run.labels (length (each_of action_change (entries_to run phase))) (run_acting run kept orderly phase).few

  -- an addition of a session's event stands behind the session's connect
  pub record IsAddedBy (session action row version : ℕ) : Type 0 where
    pub place : Placed
    pub among : IsAmong place (entries_to run phase)
    pub own : (place.session == session) ≡ true
    pub entry : place.entry ≡ says.Add row version
    pub told : IsTold session (rooms_at run.setting run.change run.labels) (entries_to run phase) action place.context
    pub idle : place.context.action ≡ 0

  pub added_by : (session index action row version : ℕ) → first_of (given_by connects_at session (entries_to run phase)) ≡ Some action → Adding (lines_to run kind phase) (event_number session index) row version → IsAddedBy session action row version
  added_by session index action row version first (events, stands, some) = at (a.place.session == session) refl where
    a : IsAddition (entries_to run phase) row version events
    a = addition_is row version events (entries_to run phase) (sifted (is_kind_row (cells_of run.setting kind)) (all_lines (entries_to run phase)) row version (Added events) stands).1

    many : 1 ≤ count_by (λ x. x == event_number session index) (brought_by a.place row)
    many = subst (λ es. 1 ≤ count_by (λ x. x == event_number session index) es) (sym a.events_are) some

    at : (b : Bool) → (a.place.session == session) ≡ b → IsAddedBy session action row version
    at false q = absurd (let z : count_by (λ x. x == event_number session index) (brought_by a.place row) ≡ 0 = numbers_other session index a.place.session q (brought a.place.context row) in omega (arith, z, many))
    at true q = on (subst (IsBehindConnect session rooms ps a.place.context) a.entry o.behind) where
      o : IsOwn session (rooms_at run.setting run.change run.labels) (entries_to run phase) a.place
      o = place_among (λ (p : Placed). (p.session == session) ≡ true → IsOwn session (rooms_at run.setting run.change run.labels) (entries_to run phase) p) a.place (entries_to run phase) a.among (run_own run kept orderly phase session) q

      on : (given_by connects_at session (entries_to run phase) ≡ []) ⊎ ((b : ℕ) × IsTold session (rooms_at run.setting run.change run.labels) (entries_to run phase) b a.place.context) → IsAddedBy session action row version
      on (inl n) = absurd (let k : None ≡ Some action = sym (ap first_of n) ∙ first in cc)
      on (inr (b, t)) = record {
        place = a.place;
        among = a.among;
        own = q;
        entry = a.entry;
        told = (let e : b ≡ action = (let k : Some b ≡ Some action = sym t.first ∙ first in cc) in subst (λ n. IsTold session (rooms_at run.setting run.change run.labels) (entries_to run phase) n a.place.context) e t);
        idle = place_among IsIdle a.place (entries_to run phase) a.among (run_idle run kept orderly phase) (ap is_feed a.entry);
      }

  -- above what actions up to the connect did
  floor_of_added : (session action row version : ℕ) → IsAddedBy session action row version → (at : ℕ) (change : Moved) → Stands (lines_to run kind phase) row at change → IsMove change → action_of change ≤ action → at < version
  floor_of_added session action row version a at change s m l =
      let over : greatest row (each_of row_change (by_actions a.place.context.done (places run.blocks))) < version = subst (IsOver (places run.blocks) a.place) a.entry (place_among (λ (p : Placed). IsOver (places run.blocks) p p.entry) a.place (entries_to run phase) a.among (run_over run kept orderly phase)) in
      let up : action ≤ a.place.context.done = done a.told.begun in
      let one : 1 ≤ action_of change = (acted.numbers row at change s m).0 in
      let known : at ≤ greatest row (each_of row_change (by_actions a.place.context.done (places run.blocks)))
      = move_known a.place.context.done row at change (places run.blocks)
      (stands_chosen (λ place. Rattle.std.specs.Prelude.nat_le place.phase phase) row at change (places run.blocks) (sifted (is_kind_row (cells_of run.setting kind)) (all_lines (entries_to run phase)) row at change s).1) m one (omega (arith, l, up)) in
      omega (arith, over, known) where
        done : ((a.place.context.action ≡ 0) × (action ≤ a.place.context.done)) ⊎ (action ≤ a.place.context.action) → action ≤ a.place.context.done
        done (inl h) = h.1
        done (inr h) = absurd (let z : a.place.context.action ≡ 0 = a.idle in let p : 1 ≤ action = a.told.positive in omega (arith, h, z, p))

  firsts_of : (session : ℕ) (qs : List Placed) → Each (λ (p : Placed). (p.session == session) ≡ true → IsOwn session (rooms_at run.setting run.change run.labels) (entries_to run phase) p) qs → Each (λ (p : Placed). (p.session == session) ≡ true → IsFirstConnect session (entries_to run phase) p.entry) qs
  firsts_of session [] h = tt
  firsts_of session (p ∷ qs) h = ((λ q. (h.0 q).first), firsts_of session qs h.1)

  -- what is asked of a quit
  abbrev pub AreQuitAbove : Type 0
  AreQuitAbove = (one : Ended) (action : ℕ) → IsAmong one (all_ended (entries_to run phase)) → counts_in (cells_of run.setting kind) one ≡ true → (slot : ℕ) → counted_slot one.context.slot one.event.verdict ≡ Some slot
      → IsTold one.session (rooms_at run.setting run.change run.labels) (entries_to run phase) action one.context
      → (version : ℕ) → IsAddedBy one.session action (home_row one) version → QuitAbove (quit_in (entries_to run phase) one.session) (lines_to run kind phase) (home_row one) version

  module _ (above : AreQuitAbove) where
    added_at : (one : Ended) → IsAmong one (all_ended (entries_to run phase)) → counts_in (cells_of run.setting kind) one ≡ true → (o : Option ℕ) → counted_slot one.context.slot one.event.verdict ≡ o
        → IsAdded (opened_by (limits_of run.setting)) (actions_to run phase) (lines_to run kind phase) (rows_by run kind) (number_of one) (whose_at (names_by run.change) (entries_to run phase) one o)
    added_at one m c None q = (and_parts (is_let_through one.event.verdict) (cells_of run.setting kind one.event.subject.cell) c).1
    added_at one m c (Some slot) q = on (each_among (λ (one : Ended). IsKnown one.session (rooms_at run.setting run.change run.labels) (entries_to run phase) one.context) one (all_ended (entries_to run phase)) m (run_known run kept orderly phase)) where
      s : ℕ
      s = one.session

      slotted : one.context.slot ≡ Some slot
      slotted = counted_some one.context.slot one.event.verdict slot q

      home : home_row one ≡ Rattle.pfs_model.specs.EntryAsks.cell_row (Some slot) one.event.subject.cell
      home = ap (λ z. Rattle.pfs_model.specs.EntryAsks.cell_row z one.event.subject.cell) q

      x : Session
      x = session_of (names_by run.change) one

      told : (action : ℕ) → IsTold one.session (rooms_at run.setting run.change run.labels) (entries_to run phase) action one.context
          → IsAdded (opened_by (limits_of run.setting)) (actions_to run phase) (lines_to run kind phase) (rows_by run kind) (number_of one) (Rattle.pfs_conservation.specs.KindSummaries.OfSession one.event.subject.cell slot (session_of (names_by run.change) one) action (quit_in (entries_to run phase) one.session))
      told action t = (
        (and_parts (is_let_through one.event.verdict) (cells_of run.setting kind one.event.subject.cell) c).1,
        seat,
        (let n : length (actions_to run phase) ≡ length (each_of action_change (entries_to run phase)) = many_actions in let l : action ≤ length (each_of action_change (entries_to run phase)) = range.1 in omega (arith, n, l)),
        (λ k l b e. no_quit k l e b),
        (λ version a at change st mv l. floor_of_added one.session action (Rattle.pfs_model.specs.EntryAsks.cell_row (Some slot) one.event.subject.cell) version (added_by one.session one.event.index action (Rattle.pfs_model.specs.EntryAsks.cell_row (Some slot) one.event.subject.cell) version t.first a) at change st mv l),
        (λ version a. subst (λ r. QuitAbove (quit_in (entries_to run phase) one.session) (lines_to run kind phase) r version) home
            (above one action m c slot q t version (subst (λ r. IsAddedBy one.session action r version) (sym home) (added_by one.session one.event.index action (Rattle.pfs_model.specs.EntryAsks.cell_row (Some slot) one.event.subject.cell) version t.first a)))),
      ) where
        range : (1 ≤ action) × (action ≤ length (each_of action_change (entries_to run phase)))
        range = run_number run kept orderly phase one.session action t.more t.numbers

        label : Label
        label = record { session = one.session; line = 1 }

        seated : IsSeated run.setting run.change run.labels (length (each_of action_change (entries_to run phase))) action slot (rooms_told one.context) (record { session = one.session; line = 1 })
        seated = seated_there run.setting run.change run.labels (length (each_of action_change (entries_to run phase))) action (record { session = one.session; line = 1 }) slot (rooms_told one.context) range.1 (run_acting run kept orderly phase).few
            (run_label run kept orderly phase one.session action t.more t.numbers) t.found slotted

        names : names_by run.change one.session ≡ record { user = seated.user; host = seated.host }
        names = ap names_in seated.connects

        seat : entry_at (state_after (opened_by (limits_of run.setting)) (numbered (actions_to run phase)) action).threads slot ≡ Some (session_of (names_by run.change) one)
        seat = seated.stands ∙ sym (ap (λ (n : Rattle.pfs_model.specs.SummaryCounts.Names). Some (record {
          number = one.session;
          user_name = n.user;
          host_name = n.host;
          account = one.context.account;
          user = one.context.user;
          host = one.context.host;
        })) names)

        by_quit : (k : ℕ) (o : Option ℕ) → o ≡ Some k → IsBy o (suc k) → ⊥
        by_quit k None e b = absurd (cc)
        by_quit k (Some n) e b = (let r : n ≡ k = cc in omega (arith, r, b))

        no_quit : (k : ℕ) → suc action ≤ k → numbered (actions_to run phase) k ≡ Quit one.session → IsBy (quit_in (entries_to run phase) one.session) (suc k) → ⊥
        no_quit k l e b = by_quit k (quit_in (entries_to run phase) one.session)
            (no_other_quit run.change run.labels (places run.blocks) (entries_to run phase) (run_acting run kept orderly phase) one.session action (firsts_of one.session (entries_to run phase) (run_own run kept orderly phase one.session)) t.first k l e) b

      on : IsKnown one.session (rooms_at run.setting run.change run.labels) (entries_to run phase) one.context
          → IsAdded (opened_by (limits_of run.setting)) (actions_to run phase) (lines_to run kind phase) (rows_by run kind) (number_of one) (whose_at (names_by run.change) (entries_to run phase) one (Some slot))
      on (inl n) = absurd (let k : None ≡ Some slot = sym n ∙ slotted in cc)
      on (inr (action, t)) = subst (λ n. IsAdded (opened_by (limits_of run.setting)) (actions_to run phase) (lines_to run kind phase) (rows_by run kind) (number_of one) (Rattle.pfs_conservation.specs.KindSummaries.OfSession one.event.subject.cell slot (session_of (names_by run.change) one) n (quit_in (entries_to run phase) one.session)))
          (sym (ap or_none t.first)) (told action t)

    added_each : (event : ℕ) → 1 ≤ count_by (λ y. event == y) (events_to run kind phase) → IsAdded (opened_by (limits_of run.setting)) (actions_to run phase) (lines_to run kind phase) (rows_by run kind) event (whose_to run phase event)
    added_each event l =
        let o : IsOne event (counts_in (cells_of run.setting kind)) (all_ended (entries_to run phase)) = event_of event l in
        subst (λ w. IsAdded (opened_by (limits_of run.setting)) (actions_to run phase) (lines_to run kind phase) (rows_by run kind) event w) (sym (whose_is event o))
        (subst (λ n. IsAdded (opened_by (limits_of run.setting)) (actions_to run phase) (lines_to run kind phase) (rows_by run kind) n (whose_by (names_by run.change) (entries_to run phase) o.one)) o.number
        (added_at o.one o.among o.passes (counted_slot o.one.context.slot o.one.event.verdict) refl))

    pub are_added : length (events_to run kind phase) < 2 ^ 64 → AreAdded (rows_by run kind) (opened_by (limits_of run.setting)) (actions_to run phase) (events_to run kind phase) (lines_to run kind phase) (whose_to run phase)
    are_added few = record { few = few; once = once_all; counted = counted_all; added = added_each }
