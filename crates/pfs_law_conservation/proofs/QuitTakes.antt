-- Above each addition of a session that quits stands the take of its quit.
use Rattle.std.proofs.Common.{◌≡◌, refl, ℕ, zero, suc, ◌+◌, ◌-◌, ◌<◌, ◌≤◌, ◌==◌, true, false, cond, List, [], ◌∷◌, ◌++◌, length, take, Option, Some, None, sym, ap, subst, ◌∙◌, ◌⊎◌, inl, inr, arith}
use Rattle.std.specs.Prelude.{slice_get}
use Rattle.std.proofs.lemmas.Bool.{and_parts, eqb-true}
use Rattle.pfs_admin.specs.declared.changes.Change.{Change}
use Rattle.pfs_admin.specs.declared.changes.Change.TheVariants as changes
use Rattle.pfs_board.specs.declared.view.Label.{Label}
use Rattle.pfs_conservation.specs.AdministrationFold.{Action, Connect, Quit, numbered, line_of, state_after}
use Rattle.pfs_conservation.specs.RowChains.{Taken}
use Rattle.pfs_conservation.specs.PlaceFolds.{State, Session, Thread, Quits, entry_at, line_takes, thread_owner}
use Rattle.pfs_conservation.specs.PrintedChanges.{Stands, QuitAbove}
use Rattle.pfs_conservation.specs.Prints.{AreActed, prints_all, printed_by}
use Rattle.pfs_conservation.specs.CellHolders.{Seat, all_free, opened_by, holder_of, takes_by, holder_at, rows_of}
use Rattle.pfs_event.specs.Verdicts.{is_let_through}
use Rattle.pfs_event.specs.declared.entry.Entry.{Entry}
use Rattle.pfs_event.specs.declared.entry.Entry.TheVariants as says
use Rattle.pfs_model.specs.Actions.{IsAmong, numbers_by, AllAbove, is_acted}
use Rattle.pfs_model.specs.EntryAsks.{cell_row}
use Rattle.pfs_model.specs.Chains.{Each, times, change_at, action_change, each_of, is_of, is_that}
use Rattle.pfs_model.specs.Contexts.{fresh, subject_of, noted}
use Rattle.pfs_model.specs.EntryPlaces.{Placed, places}
use Rattle.pfs_model.specs.Shapes.{counted_slot}
use Rattle.pfs_model.specs.declared.changes.Change.{Change as Numbered}
use Rattle.pfs_model.specs.declared.lines.Line.{Line}
use Rattle.pfs_model.specs.declared.lines.Line.TheVariants as lines
use Rattle.pfs_model.proofs.ChainGrowth.{times_append}
use Rattle.pfs_rows.specs.declared.place.Place.TheVariants.{ThreadCell}
use Rattle.pfs_rows.specs.declared.table.TableKind.{TableKind}
use Rattle.pfs_rows.specs.Tables.{kind_number}
use Rattle.pfs_runs.specs.Labels.{rooms_at, label_at}
use Rattle.pfs_law_conservation.specs.RunActions.{action_for, moves_at}
use Rattle.pfs_law_conservation.specs.KindRows.{seat_in, is_kind_row, kind_rows, board, cells_of, limits_of}
use Rattle.pfs_law_conservation.specs.RunEvents.{Ended, all_ended, counts_in, given_by, quits_at, first_of, quit_in, is_quit}
use Rattle.pfs_law_conservation.specs.Premises.{AreKept, IsOrderly, IsActionOf, IsChangeOf, IsLabelOf}
use Rattle.pfs_law_conservation.specs.RunTerms.{Run, entries_to, actions_to, lines_to}
use Rattle.pfs_law_conservation.specs.KindLines.{all_lines, lines_on}
use Rattle.pfs_law_conservation.proofs.AdditionOrder.{IsSplit, split_at, among_split, onto, last_split, near_split, follow_front, after_quit, before_said, IsTake, take_is, below_behind, IsSayer, sayer_is, IsQuitting, quitting_is, quits_onto}
use Rattle.pfs_law_conservation.proofs.ConnectLines.{IsApart, is_connecting, is_act}
use Rattle.pfs_law_conservation.proofs.AdditionCounts.{each_among}
use Rattle.pfs_law_conservation.proofs.AdditionFloors.{place_among}
use Rattle.pfs_law_conservation.proofs.SingleQuits.{IsActed, acted_of, no_other_quit, IsIndexed, said_index}
use Rattle.pfs_law_conservation.proofs.HomeRows.{AreNone, low_row, IsLowEnded, home_kind}
use Rattle.pfs_law_conservation.proofs.RunEntries.{run_follow, run_number, run_own, run_label, run_acting, run_ended_low, run_rising, run_near, run_apart, run_said}
use Rattle.pfs_law_conservation.proofs.ConnectSlots.{IsSeated, seated_there, session_in}
use Rattle.pfs_law_conservation.proofs.PrintedTakes.{in_kind_rows, taken_print, taken_printed, print_stands}
use Rattle.pfs_law_conservation.proofs.SessionThreads.{stays_there, quits_slot}
use Rattle.pfs_law_conservation.proofs.FirstConnects.{rooms_told, IsTold, IsOwn, IsFirstConnect}
use Rattle.pfs_law_conservation.proofs.HomeAdditions.{IsAddedBy, AreQuitAbove, counted_some}
use Rattle.pfs_law_conservation.proofs.LineVersions.{that_self, chain_one, chain_range}
use Rattle.pfs_law_conservation.proofs.PlaceFolds.{numbered_at, front_get, truncation_connects}
use Rattle.pfs_law_conservation.proofs.EventOffers.{home_row}
use Rattle.pfs_law_conservation.proofs.ActionJournals.{zero_rows, HasNumber}
use Rattle.pfs_law_conservation.proofs.SlotMoves.{AreBack, AreFound, seat_at}
use Rattle.pfs_law_conservation.proofs.RowLines.{sifted, bit_yes}
use Rattle.pfs_law_conservation.proofs.ActionNumbers.{said_counts, none_before, own_number, above_among, quit_change, some_of, label_same}

-- at first nobody is connected
none_free : {X : Type 0} (n j : ℕ) (y : X) → entry_at (all_free n) j ≡ Some y → ⊥
none_free zero j y e = absurd (cc)
none_free (suc n) zero y e = absurd (cc)
none_free (suc n) (suc j) y e = none_free n j y e

connect_change : (line : Line) (user host : ℕ) → IsChangeOf line (changes.Connect user host) → is_connecting line ≡ true
connect_change lines.Connect user host h = refl
connect_change lines.Quit user host h = absurd h
connect_change _ user host h = absurd h

apart : (user host : ℕ) → changes.Connect user host ≡ changes.Quit → ⊥
apart user host e = cc

module _ (back : AreBack) (found : AreFound) (none : AreNone) (run : Run) (kind : TableKind) (phase : ℕ) (kept : AreKept run) (orderly : IsOrderly run)
    (acted : AreActed run.counted (moves_at run.setting kind (actions_to run phase)) (length (actions_to run phase)) (lines_to run kind phase)) where
  abbrev ps : List Placed
  ps = entries_to run phase

  abbrev all : List Placed
  all = places run.blocks

  abbrev many : ℕ
  many = length (each_of action_change (entries_to run phase))

  abbrev acts : ℕ → Action
  acts = numbered (actions_to run phase)

  abbrev opening : State
  opening = opened_by (limits_of run.setting)

  less : (k : ℕ) → suc k - 1 ≡ k
  less k = omega arith

  -- the label of an action that a session says
  label_of : (p : Placed) (k : ℕ) → IsAmong p all → action_change p.entry ≡ change_at 0 (suc k) ∷ [] → (line : ℕ) × (slice_get run.labels k ≡ Some (record { session = p.session; line = line }))
  label_of p k m e =
      let i : IsIndexed (suc k) (numbers_by p.session (places run.blocks)) = said_index (suc k) p (places run.blocks) m e in
      (i.index + 1, ap (slice_get run.labels) (sym (less k)) ∙ kept.labelled.each p.session i.index (change_at 0 (suc k)) i.there)

  -- a session connects once
  only_connect : (session action : ℕ) → first_of (given_by Rattle.pfs_law_conservation.specs.RunEvents.connects_at session (entries_to run phase)) ≡ Some action → (k user host : ℕ) → numbered (actions_to run phase) k ≡ Connect session user host → k ≡ action
  only_connect session action first k user host q = on (acted_of run.change run.labels (places run.blocks) (entries_to run phase) (run_acting run kept orderly phase) k (Connect session user host) q (λ e. absurd (cc))) where
    on : (label : Label) × IsActed run.change run.labels (entries_to run phase) k label × (action_for label.session (run.change label) ≡ Connect session user host) → k ≡ action
    on (label, a, e) = by a.said.place.entry refl a.said.says where
      p : Placed
      p = a.said.place

      connects : (s : ℕ) (what : Change) → action_for s what ≡ Connect session user host → (what ≡ changes.Connect user host) × (s ≡ session)
      connects s (changes.Connect u h) e = (cc, cc)
      connects s changes.Quit e = absurd (cc)
      connects s (changes.Truncate what) e = absurd (truncation_connects what session user host e)
      connects s (changes.Setup what) e = absurd (cc)

      same : (n : ℕ) → ◌≡◌ {A = List Numbered} (change_at 0 n ∷ []) (change_at 0 k ∷ []) → n ≡ k
      same n f = let h : change_at 0 n ≡ change_at 0 k = cc in ap (λ (z : Numbered). z.version) h

      own : (p.session == session) ≡ true
      own = subst (λ n. (n == session) ≡ true) (sym (a.session ∙ (connects label.session (run.change label) e).1)) (self session) where
        self : (n : ℕ) → (n == n) ≡ true
        self n = grind arith

      by : (x : Entry) → p.entry ≡ x → action_change x ≡ change_at 0 k ∷ [] → k ≡ action
      by (says.Connect n thread account user_place host_place) f g =
          let o : IsOwn session (rooms_at run.setting run.change run.labels) (entries_to run phase) p = place_among (λ (p : Placed). (p.session == session) ≡ true → IsOwn session (rooms_at run.setting run.change run.labels) (entries_to run phase) p) p (entries_to run phase) a.said.among (run_own run kept orderly phase session) own in
          let c : first_of (given_by Rattle.pfs_law_conservation.specs.RunEvents.connects_at session (entries_to run phase)) ≡ Some n = subst (IsFirstConnect session (entries_to run phase)) f o.first in
          sym (same n g) ∙ (let z : Some n ≡ Some action = sym c ∙ first in cc)
      by (says.Act n) f g =
          let h : IsLabelOf run.change p.line (label_at run.labels n) = subst (IsActionOf run.change run.labels p.line) f (place_among (λ (p : Placed). IsActionOf run.change run.labels p.line p.entry) p (entries_to run phase) a.said.among (run_acting run kept orderly phase).acts) in
          let i : IsChangeOf p.line (run.change label) = subst (IsLabelOf run.change p.line) (ap (label_at run.labels) (same n g) ∙ a.at) h in
          let c : is_connecting p.line ≡ true = connect_change p.line user host (subst (IsChangeOf p.line) (connects label.session (run.change label) e).0 i) in
          absurd (let z : true ≡ false = sym (ap is_act f) ∙ place_among IsApart p (entries_to run phase) a.said.among (run_apart run kept orderly phase) c in cc)
      by _ f g = absurd (cc)

  -- what is known of a quit
  pub record IsQuit (session action k : ℕ) : Type 0 where
    pub place : IsQuitting session (suc k) (entries_to run phase)
    pub rest : List ℕ
    pub quits : given_by quits_at session (entries_to run phase) ≡ suc k ∷ rest
    pub within : suc k ≤ length (each_of action_change (entries_to run phase))
    pub label : Label
    pub at : slice_get run.labels k ≡ Some label
    pub of_session : label.session ≡ session
    pub change_is : run.change label ≡ changes.Quit
    pub numbered_is : numbered (actions_to run phase) (suc k) ≡ Quit session
    pub later : action ≤ k

  quit_is : (one : Ended) (action slot k : ℕ) → one.context.slot ≡ Some slot → IsTold one.session (rooms_at run.setting run.change run.labels) (entries_to run phase) action one.context → quit_in (entries_to run phase) one.session ≡ Some (suc k) → IsQuit one.session action k
  quit_is one action slot k slotted t q = record {
    place = x;
    rest = first.0;
    quits = first.1;
    within = within;
    label = record { session = x.place.session; line = l.0 };
    at = l.1;
    of_session = session_is;
    change_is = change_is;
    numbered_is = numbered_at run.change (take (length (each_of action_change (entries_to run phase))) run.labels) k (record { session = x.place.session; line = l.0 }) (front_get run.labels (length (each_of action_change (entries_to run phase))) k (omega (arith, within)) ∙ l.1)
        ∙ (ap (action_for x.place.session) change_is ∙ ap (λ z. Quit z) session_is);
    later = later;
  } where
    first : (rest : List ℕ) × (given_by quits_at one.session (entries_to run phase) ≡ suc k ∷ rest)
    first = some_of (given_by quits_at one.session (entries_to run phase)) (suc k) q

    x : IsQuitting one.session (suc k) (entries_to run phase)
    x = quitting_is one.session (suc k) first.0 (entries_to run phase) first.1

    says_it : action_change x.place.entry ≡ change_at 0 (suc k) ∷ []
    says_it = ap action_change x.entry

    session_is : x.place.session ≡ one.session
    session_is = eqb-true x.place.session one.session x.own

    within : suc k ≤ length (each_of action_change (entries_to run phase))
    within =
        let r : (1 ≤ suc k) × (suc k ≤ times (is_of 0) (each_of action_change (entries_to run phase))) = chain_range (each_of action_change (entries_to run phase)) (kept.rules.joint.ordered.numbers phase) (change_at 0 (suc k)) (said_counts (suc k) x.place (entries_to run phase) x.among says_it) in
        let z : times (is_of 0) (each_of action_change (entries_to run phase)) ≡ length (each_of action_change (entries_to run phase)) = zero_rows (entries_to run phase) in
        let h : suc k ≤ times (is_of 0) (each_of action_change (entries_to run phase)) = r.1 in
        omega (arith, h, z)

    l : (line : ℕ) × (slice_get run.labels k ≡ Some (record { session = x.place.session; line = line }))
    l = label_of x.place k ((run_acting run kept orderly phase).sub x.place x.among) says_it

    change_is : run.change (record { session = x.place.session; line = l.0 }) ≡ changes.Quit
    change_is =
        let h : IsLabelOf run.change x.place.line (slice_get run.labels k) = subst (IsActionOf run.change run.labels x.place.line) x.entry (place_among (λ (p : Placed). IsActionOf run.change run.labels p.line p.entry) x.place (entries_to run phase) x.among (run_acting run kept orderly phase).acts) in
        quit_change x.place.line (run.change (record { session = x.place.session; line = l.0 })) x.line (subst (IsLabelOf run.change x.place.line) l.1 h)

    seated : IsSeated run.setting run.change run.labels (length (each_of action_change (entries_to run phase))) action slot (rooms_told one.context) (record { session = one.session; line = 1 })
    seated = seated_there run.setting run.change run.labels (length (each_of action_change (entries_to run phase))) action (record { session = one.session; line = 1 }) slot (rooms_told one.context) (run_number run kept orderly phase one.session action t.more t.numbers).1 (run_acting run kept orderly phase).few
        (run_label run kept orderly phase one.session action t.more t.numbers) t.found slotted

    later : action ≤ k
    later = on (subst (IsAmong (change_at 0 (suc k))) t.numbers (own_number (suc k) one.session x.place (entries_to run phase) x.among x.own says_it)) where
      on : IsAmong (change_at 0 (suc k)) (change_at 0 action ∷ t.more) → action ≤ k
      on (inr m) = (let h : action < suc k = above_among action (change_at 0 (suc k)) t.more (subst Rattle.pfs_model.specs.Actions.AreRising t.numbers (run_rising run kept orderly phase one.session)).0 m in omega (arith, h))
      on (inl e) =
          let n : action ≡ suc k = ap (λ (z : Numbered). z.version) e in
          let a : slice_get run.labels k ≡ Some (record { session = one.session; line = 1 }) = sym (ap (label_at run.labels) n) ∙ run_label run kept orderly phase one.session action t.more t.numbers in
          let s : record { session = x.place.session; line = l.0 } ≡ record { session = one.session; line = 1 } = label_same (slice_get run.labels k) (record { session = x.place.session; line = l.0 }) (record { session = one.session; line = 1 }) l.1 a in
          absurd (apart seated.user seated.host (sym seated.connects ∙ (ap run.change (sym s) ∙ change_is)))

  -- the quit takes the home of its session's events
  home_taken : (one : Ended) (action slot k : ℕ) → IsAmong one (all_ended (entries_to run phase)) → counts_in (cells_of run.setting kind) one ≡ true → counted_slot one.context.slot one.event.verdict ≡ Some slot
      → IsTold one.session (rooms_at run.setting run.change run.labels) (entries_to run phase) action one.context → quit_in (entries_to run phase) one.session ≡ Some (suc k) → IsQuit one.session action k
      → (version : ℕ) × Stands (lines_to run kind phase) (home_row one) version (Taken (suc k))
  home_taken one action slot k m c q t e u =
      print_stands (home_row one) (suc k) (lines_to run kind phase) (subst (IsAmong (taken_print (home_row one) (suc k))) (sym (acted.asks (suc k)))
      (taken_printed run.counted (holder_of (board (cells_of run.setting kind)) opening acts) (takes_by (board (cells_of run.setting kind)) opening acts (kind_number kind)) (suc k) (home_row one)
      (thread_owner (rows_of (board (cells_of run.setting kind)) one.event.subject.cell) x) (kind_rows (cells_of run.setting kind)) rows takes holds)) where
        slotted : one.context.slot ≡ Some slot
        slotted = counted_some one.context.slot one.event.verdict slot q

        seated : IsSeated run.setting run.change run.labels (length (each_of action_change (entries_to run phase))) action slot (rooms_told one.context) (record { session = one.session; line = 1 })
        seated = seated_there run.setting run.change run.labels (length (each_of action_change (entries_to run phase))) action (record { session = one.session; line = 1 }) slot (rooms_told one.context) (run_number run kept orderly phase one.session action t.more t.numbers).1 (run_acting run kept orderly phase).few
            (run_label run kept orderly phase one.session action t.more t.numbers) t.found slotted

        x : Session
        x = session_in run.setting run.change run.labels one.session seated.user seated.host (rooms_told one.context)

        own : x.number ≡ one.session
        own = refl

        free : (j : ℕ) (y : Session) → entry_at opening.threads j ≡ Some y → ⊥
        free j y e = none_free run.setting.limits.thread_instances j y e

        seat : entry_at (state_after opening acts action).threads slot ≡ Some x
        seat = seated.stands

        only : (j user host : ℕ) → acts j ≡ Connect one.session user host → j ≡ action
        only j user host h = only_connect one.session action t.first j user host h

        firsts : (qs : List Placed) → Each (λ (p : Placed). (p.session == one.session) ≡ true → IsOwn one.session (rooms_at run.setting run.change run.labels) (entries_to run phase) p) qs → Each (λ (p : Placed). (p.session == one.session) ≡ true → IsFirstConnect one.session (entries_to run phase) p.entry) qs
        firsts [] h = tt
        firsts (p ∷ qs) h = ((λ z. (h.0 z).first), firsts qs h.1)

        never : (j : ℕ) → suc action ≤ j → j < suc k → acts j ≡ Quit one.session → ⊥
        never j l n h =
            let z : quit_in (entries_to run phase) one.session ≡ Some j = no_other_quit run.change run.labels (places run.blocks) (entries_to run phase) (run_acting run kept orderly phase) one.session action (firsts (entries_to run phase) (run_own run kept orderly phase one.session)) t.first j l h in
            let r : j ≡ suc k = (let s : Some j ≡ Some (suc k) = sym z ∙ e in cc) in
            omega (arith, r, n)

        stays : entry_at (state_after opening acts k).threads slot ≡ Some x
        stays = stays_there opening acts one.session slot action x own free seat only (suc k) never k u.later (omega arith)

        low : IsLowEnded one
        low = each_among IsLowEnded one (all_ended (entries_to run phase)) m (run_ended_low run kept orderly phase)

        is_cell : cells_of run.setting kind one.event.subject.cell ≡ true
        is_cell = (and_parts (is_let_through one.event.verdict) (cells_of run.setting kind one.event.subject.cell) c).1

        home : home_row one ≡ cell_row (Some slot) one.event.subject.cell
        home = ap (λ z. cell_row z one.event.subject.cell) q

        slot_low : slot < 32
        slot_low = subst (λ (o : Option ℕ). Rattle.std.specs.Prelude.IfSome o (λ n. n < 32)) slotted low.1

        seat_is : seat_in (cells_of run.setting kind) (home_row one) ≡ record { cell = one.event.subject.cell; place = Thread slot }
        seat_is = ap (seat_in (cells_of run.setting kind)) home ∙ (seat_at back (cells_of run.setting kind) (ThreadCell slot one.event.subject.cell) (slot_low, low.0)
            ∙ ap (λ b. cond {A = Seat} b (record { cell = one.event.subject.cell; place = Thread slot }) Rattle.pfs_law_conservation.specs.KindRows.elsewhere) is_cell)

        test_home : is_kind_row (cells_of run.setting kind) (home_row one) ≡ true
        test_home = home_kind back (cells_of run.setting kind) one low ∙ is_cell

        rows : IsAmong (home_row one) (kind_rows (cells_of run.setting kind))
        rows = in_kind_rows (cells_of run.setting kind) (home_row one) (subst (λ n. 129 ≤ n) (sym home) (omega arith)) (low_row back found none (cells_of run.setting kind) (home_row one) test_home) test_home

        takes : takes_by (board (cells_of run.setting kind)) opening acts (kind_number kind) (suc k) (home_row one) ≡ true
        takes =
            ap (λ (s : Seat). line_takes (line_of (kind_number kind) (state_after opening acts k) (acts (suc k))) s.place) seat_is
            ∙ (ap (λ a. line_takes (line_of (kind_number kind) (state_after opening acts k) a) (Thread slot)) u.numbered_is
            ∙ (ap (λ z. line_takes z (Thread slot)) (quits_slot opening acts one.session slot action x own free seat only (kind_number kind) k stays) ∙ self slot)) where
              self : (n : ℕ) → (n == n) ≡ true
              self n = grind arith

        holds : holder_of (board (cells_of run.setting kind)) opening acts (suc k) (home_row one) ≡ Some (thread_owner (rows_of (board (cells_of run.setting kind)) one.event.subject.cell) x)
        holds =
            ap (holder_at (board (cells_of run.setting kind)) (state_after opening acts k)) seat_is
            ∙ ap (Rattle.pfs_conservation.specs.PlaceFolds.owner_of (thread_owner (rows_of (board (cells_of run.setting kind)) one.event.subject.cell))) stays

  -- and above each addition
  taken_above : (one : Ended) (action k version : ℕ) → IsAmong one (all_ended (entries_to run phase)) → counts_in (cells_of run.setting kind) one ≡ true
      → IsAddedBy back found none run kind phase kept orderly acted one.session action (home_row one) version → IsQuit one.session action k
      → (above : ℕ) × Stands (lines_to run kind phase) (home_row one) above (Taken (suc k)) → (above : ℕ) × (version < above) × Stands (lines_to run kind phase) (home_row one) above (Taken (suc k))
  taken_above one action k version m c a u (above, stands) = (above, order, stands) where
    x : Placed
    x = u.place.place

    session_is : x.session ≡ one.session
    session_is = eqb-true u.place.place.session one.session u.place.own

    says_it : action_change x.entry ≡ change_at 0 (suc k) ∷ []
    says_it = ap action_change u.place.entry

    s : IsSplit x (entries_to run phase)
    s = split_at x (entries_to run phase) u.place.among

    r : IsTake (entries_to run phase) (home_row one) above (suc k)
    r = take_is (home_row one) above (suc k) (entries_to run phase) (sifted (is_kind_row (cells_of run.setting kind)) (all_lines (entries_to run phase)) (home_row one) above (Taken (suc k)) stands).1

    test_home : is_kind_row (cells_of run.setting kind) (home_row one) ≡ true
    test_home = home_kind back (cells_of run.setting kind) one (each_among IsLowEnded one (all_ended (entries_to run phase)) m (run_ended_low run kept orderly phase)) ∙ (and_parts (is_let_through one.event.verdict) (cells_of run.setting kind one.event.subject.cell) c).1

    -- the take is of the session that quits
    take_session : r.place.session ≡ one.session
    take_session = on (place_among (HasNumber (places run.blocks)) r.place (entries_to run phase) r.among (run_said run kept orderly phase)) where
      on : HasNumber (places run.blocks) r.place → r.place.session ≡ one.session
      on (inl n) = absurd (let z : true ≡ false = sym (ap is_acted r.entry) ∙ n.1 in cc)
      on (inr said) =
          let y : IsSayer r.place.session (suc k) (places run.blocks) = sayer_is r.place.session r.place.phase (suc k) (places run.blocks) (subst (λ n. Rattle.pfs_law_conservation.proofs.ActionJournals.IsSaid (places run.blocks) r.place.session r.place.phase n) r.action_is said) in
          let l : (line : ℕ) × (slice_get run.labels k ≡ Some (record { session = y.place.session; line = line })) = label_of y.place k y.among y.says in
          let e : record { session = y.place.session; line = l.0 } ≡ u.label = label_same (slice_get run.labels k) (record { session = y.place.session; line = l.0 }) u.label l.1 u.at in
          sym y.session_is ∙ (ap (λ (z : Label). z.session) e ∙ u.of_session)

    own_of : (p : Placed) → p.session ≡ one.session → (p.session == one.session) ≡ true
    own_of p e = subst (λ n. (n == one.session) ≡ true) (sym e) (self one.session) where
      self : (n : ℕ) → (n == n) ≡ true
      self n = grind arith

    behind : Each (λ (p : Placed). (p.session == one.session) ≡ true → p.context.action ≡ suc k) s.after
    behind = after_quit one.session (suc k) s.after x.session (noted (subject_of x.line) x.context x.entry) (x ∷ onto [] s.before) (suc k) (given_by quits_at one.session (onto [] s.before))
        (near_split 0 fresh x s.before s.after (subst (Rattle.pfs_law_conservation.proofs.EventOffers.Near 0 fresh) s.all (run_near run kept orderly phase 0 fresh)))
        (last_split [] s.before (x ∷ s.after) (subst (Rattle.pfs_law_conservation.specs.Premises.AreLastBehind []) s.all (run_acting run kept orderly phase).last)).1
        (quits_onto one.session x (suc k) (onto [] s.before) u.place.own (ap (quits_at x) u.place.entry ∙ ap (λ b. cond b (suc k ∷ []) []) u.place.line))
        (λ q. ap (λ z. (noted (subject_of x.line) x.context z).action) u.place.entry)

    earlier : Each (λ (p : Placed). (p.session == one.session) ≡ true → p.context.action ≡ suc k → ⊥) s.before
    earlier = before_said one.session (suc k) fresh s.before (omega arith) (follow_front one.session fresh s.before (x ∷ s.after) (subst (Rattle.pfs_law_conservation.proofs.EntryWalk.Follow one.session fresh) s.all (run_follow run kept orderly phase one.session)))
        (λ e. (let z : 0 ≡ suc k = e in omega (arith, z)))
        (none_before (suc k) x s.before s.after says_it (subst (λ qs. times (is_that (change_at 0 (suc k))) (each_of action_change qs) ≤ 1) s.all (chain_one (each_of action_change (entries_to run phase)) (kept.rules.joint.ordered.numbers phase) (change_at 0 (suc k)))))

    added_before : IsAmong a.place s.before
    added_before = on (among_split a.place x s.before s.after (subst (IsAmong a.place) s.all a.among)) where
      on : IsAmong a.place s.before ⊎ ((x ≡ a.place) ⊎ IsAmong a.place s.after) → IsAmong a.place s.before
      on (inl m) = m
      on (inr (inl e)) = absurd (let z : says.Act (suc k) ≡ says.Add (home_row one) version = sym u.place.entry ∙ (ap (λ (p : Placed). p.entry) e ∙ a.entry) in cc)
      on (inr (inr m)) = absurd (let z : a.place.context.action ≡ suc k = place_among (λ (p : Placed). (p.session == one.session) ≡ true → p.context.action ≡ suc k) a.place s.after m behind a.own in let w : a.place.context.action ≡ 0 = a.idle in omega (arith, z, w))

    taken_behind : IsAmong r.place s.after
    taken_behind = on (among_split r.place x s.before s.after (subst (IsAmong r.place) s.all r.among)) where
      on : IsAmong r.place s.before ⊎ ((x ≡ r.place) ⊎ IsAmong r.place s.after) → IsAmong r.place s.after
      on (inl m) = absurd (place_among (λ (p : Placed). (p.session == one.session) ≡ true → p.context.action ≡ suc k → ⊥) r.place s.before m earlier (own_of r.place take_session) r.action_is)
      on (inr (inl e)) = absurd (let z : says.Act (suc k) ≡ says.Take (home_row one) above = sym u.place.entry ∙ (ap (λ (p : Placed). p.entry) e ∙ r.entry) in cc)
      on (inr (inr m)) = m

    order : version < above
    order = below_behind (is_kind_row (cells_of run.setting kind)) a.place r.place (home_row one) version above s.before (x ∷ s.after)
        (subst (λ qs. Rattle.pfs_conservation.specs.Prints.Rises (lines_on (is_kind_row (cells_of run.setting kind)) (all_lines qs))) s.all acted.rises)
        added_before (inr taken_behind) a.entry r.entry (eqb-true a.place.session one.session a.own ∙ sym take_session) test_home

  pub quits_above : AreQuitAbove back found none run kind phase kept orderly acted
  quits_above one action m c slot q t version a = on (quit_in (entries_to run phase) one.session) refl where
    on : (o : Option ℕ) → quit_in (entries_to run phase) one.session ≡ o → QuitAbove o (lines_to run kind phase) (home_row one) version
    on None e = tt
    on (Some zero) e = zero_quit (some_of (given_by quits_at one.session (entries_to run phase)) 0 e) where
      zero_quit : (rest : List ℕ) × (given_by quits_at one.session (entries_to run phase) ≡ 0 ∷ rest) → QuitAbove (Some 0) (lines_to run kind phase) (home_row one) version
      zero_quit (rest, f) =
          let x : IsQuitting one.session 0 (entries_to run phase) = quitting_is one.session 0 rest (entries_to run phase) f in
          let r : (1 ≤ 0) × (0 ≤ times (is_of 0) (each_of action_change (entries_to run phase))) = chain_range (each_of action_change (entries_to run phase)) (kept.rules.joint.ordered.numbers phase) (change_at 0 0) (said_counts 0 x.place (entries_to run phase) x.among (ap action_change x.entry)) in
          absurd (let z : 1 ≤ 0 = r.0 in omega (arith, z))
    on (Some (suc k)) e =
        let u : IsQuit one.session action k = quit_is one action slot k (counted_some one.context.slot one.event.verdict slot q) t e in
        taken_above one action k version m c a u (home_taken one action slot k m c q t e u)
