-- What the administration asks of an action by its label, among the rows of a kind, is what the fold moves there.
use Rattle.std.proofs.Common.{◌≡◌, refl, ℕ, zero, suc, ◌+◌, ◌-◌, ◌*◌, ◌<◌, ◌≤◌, ◌==◌, Bool, true, false, cond, List, [], ◌∷◌, ◌++◌, length, take, Option, Some, None, sym, ap, subst, ◌∙◌, arith}
use Rattle.std.specs.List.{range_with_len}
use Rattle.std.specs.Prelude.{slice_get, IfSome}
use Rattle.pfs_admin.specs.ConnectionAsks.{connect_work, quit_work}
use Rattle.pfs_levels.specs.declared.answers.Word.{Word}
use Rattle.pfs_levels.specs.declared.flushes.Source.{Source}
use Rattle.pfs_levels.specs.Moves.{Ask}
use Rattle.pfs_containers.specs.Administration.{Containers}
use Rattle.pfs_containers.specs.declared.containers.Seated.{Seated}
use Rattle.pfs_admin.specs.Fold.{state_of}
use Rattle.pfs_admin.specs.OpeningState.{cells_of as class_cells, kinds_of}
use Rattle.pfs_admin.specs.AdministrationStates.{seat_in, seat_at, thread_flags, connected, has_quit}
use Rattle.pfs_admin.specs.AdministrationStates.{State as Admin}
use Rattle.pfs_admin.specs.Truncations.{truncation_asks}
use Rattle.pfs_admin.specs.declared.changes.Change.{Change}
use Rattle.pfs_admin.specs.declared.changes.Change.TheVariants as changes
use Rattle.pfs_law_session.specs.Demands.{moves_asked}
use Rattle.pfs_board.specs.declared.view.Label.{Label}
use Rattle.pfs_classes.specs.declared.setting.Setting.{Setting}
use Rattle.pfs_conservation.specs.ActionMoves.{moved_by, moves_of}
use Rattle.pfs_conservation.specs.AdministrationFold.{Action, Found, Connect, Other, found_where, lowest_free, line_of, connect_line, quit_line, numbered, state_before}
use Rattle.pfs_conservation.specs.PlaceFolds.{State, Place, Session, Thread, Quits, line_takes, entry_at, owner_of, thread_owner}
use Rattle.pfs_conservation.specs.RowMoves.{Move}
use Rattle.pfs_conservation.specs.CellHolders.{Seat, holder_at, holder_of, takes_by, opened_by, rows_of}
use Rattle.pfs_conservation.specs.Tenures.{Owner}
use Rattle.pfs_containers.specs.ContainerState.{AreWell, IsInRange, seated}
use Rattle.pfs_levels.specs.Flushes.{upper, asks_of}
use Rattle.pfs_levels.specs.declared.flushes.Source.TheVariants as of
use Rattle.pfs_model.specs.Chains.{Each}
use Rattle.pfs_rows.specs.Tables.{kind_number}
use Rattle.pfs_rows.specs.declared.place.Place.TheVariants.{ThreadCell}
use Rattle.pfs_rows.specs.declared.table.TableKind.{TableKind}
use Rattle.pfs_law_plain.proofs.ClassCount.{few_classes}
use Rattle.pfs_runs.specs.Labels.{work_for, work_of_label, asked_at}
use Rattle.pfs_law_conservation.specs.RunActions.{action_for, actions_of, moves_at}
use Rattle.pfs_law_conservation.specs.KindRows.{cells_of, board, limits_of, elsewhere, seat_in as seat_of_row, is_kind_row, kind_rows}
use Rattle.pfs_law_conservation.proofs.PlaceFolds.{fold_places, numbered_at, front_get, front_front, front_length}
use Rattle.pfs_law_conservation.proofs.PrintedMoves.{moves_as, moves_on, AllAlike}
use Rattle.pfs_law_conservation.proofs.QuitMoves.{IsThere, found_there, ups_are, takes_slot, kind_past, moved_cells, asked_cells, all_alike, cells_from, of_list, cells_all}
use Rattle.pfs_law_conservation.proofs.SlotMoves.{AreBack, AreFound, seat_at as seat_is, thread_kind, other_slot, cell_moves, none_of_all, slot_of_all}
use Rattle.pfs_law_conservation.proofs.FixedCells.{fold_cells, fold_kinds}
use Rattle.pfs_law_plain.proofs.SessionPlaces.{fold_well, seat_in_in}
use Rattle.pfs_law_conservation.proofs.TruncationMoves.{truncation_same, truncation_alike}

-- a connect takes nothing
connect_idle : (s : State) (kind number user host : ℕ) (place : Place) → line_takes (line_of kind s (Connect number user host)) place ≡ false
connect_idle s kind number user host place = by (lowest_free s.threads) where
  by : (slot : Option ℕ) → line_takes (connect_line s number user host slot) place ≡ false
  by None = refl
  by (Some slot) = refl

module _ (back : AreBack) (found : AreFound) (is_cell : ℕ → Bool) (opening : State) (actions : ℕ → Action) (kind action : ℕ) where
  abbrev holder : ℕ → ℕ → Option Owner
  holder = holder_of (board is_cell) opening actions

  abbrev takes : ℕ → ℕ → Bool
  takes = takes_by (board is_cell) opening actions kind

  abbrev Moves : List Move
  Moves = moves_of holder takes action (kind_rows is_cell)

  abbrev earlier : State
  earlier = state_before opening actions action

  -- an action that takes nothing moves nothing
  pub idle : ((place : Place) → line_takes (line_of kind (state_before opening actions action) (actions action)) place ≡ false)
      → moves_of (holder_of (board is_cell) opening actions) (takes_by (board is_cell) opening actions kind) action (kind_rows is_cell) ≡ []
  idle h = none_of_all is_cell holder takes action (λ r. h (seat_of_row is_cell r).place)

  -- a quit moves its slot's cells
  pub left : (f : Found Session) → f.place < 32 → entry_at (state_before opening actions action).threads f.place ≡ Some f.entry
      → line_of kind (state_before opening actions action) (actions action) ≡ Quits f.place
      → moves_of (holder_of (board is_cell) opening actions) (takes_by (board is_cell) opening actions kind) action (kind_rows is_cell)
      ≡ cell_moves is_cell holder takes action (λ cell. record { action = action; from = 129 + 64 * f.place + cell; to = upper f.entry.account f.entry.user f.entry.host cell }) 0 64
  left f low entry line = slot_of_all is_cell holder takes action f.place _ low out (λ cell c. thread_kind back is_cell f.place cell low c) own where
    out : (r : ℕ) → r < 14242 → (129 + 64 * f.place ≤ r → r < 129 + 64 * f.place + 64 → ⊥) → takes action r ≡ false
    out r h o = ap (λ l. line_takes l (seat_of_row is_cell r).place) line ∙ (takes_slot f.place (seat_of_row is_cell r).place ∙ other_slot back found is_cell f.place r h o)

    eq_self : (n : ℕ) → (n == n) ≡ true
    eq_self n = grind arith

    own : (cell : ℕ) → cell < 64 → is_cell cell ≡ true
        → cond (takes action (129 + 64 * f.place + cell)) (moved_by (holder action (129 + 64 * f.place + cell)) action (129 + 64 * f.place + cell)) []
        ≡ record { action = action; from = 129 + 64 * f.place + cell; to = upper f.entry.account f.entry.user f.entry.host cell } ∷ []
    own cell c q =
        ap (λ b. cond b (moved_by (holder action row) action row) []) (ap (λ (z : Seat). line_takes (line_of kind earlier (actions action)) z.place) seat ∙ (ap (λ l. line_takes l (Thread f.place)) line ∙ eq_self f.place))
        ∙ (ap (λ (o : Option Owner). moved_by o action row) (ap (λ (z : Seat). holder_at (board is_cell) earlier z) seat ∙ ap (λ (x : Option Session). owner_of (thread_owner (rows_of (board is_cell) cell)) x) entry)
        ∙ ap (λ (to : List ℕ). record { action = action; from = row; to = to } ∷ []) (ups_are is_cell cell f.entry.number f.entry.user_name f.entry.host_name f.entry.account f.entry.user f.entry.host)) where
          row : ℕ
          row = 129 + 64 * f.place + cell

          seat : seat_of_row is_cell (129 + 64 * f.place + cell) ≡ record { cell = cell; place = Thread f.place }
          seat = seat_is back is_cell (ThreadCell f.place cell) (low, c) ∙ ap (λ b. cond {A = Seat} b (record { cell = cell; place = Thread f.place }) elsewhere) q

-- the cells of the classes, in all words
module _ (is_cell : ℕ → Bool) (action slot : ℕ) (account user host : Option ℕ) where
  abbrev move : ℕ → Move
  move cell = record { action = action; from = 129 + 64 * slot + cell; to = upper account user host cell }

  pub same_cells : (holder : ℕ → ℕ → Option Owner) (takes : ℕ → ℕ → Bool) (cell more : ℕ)
      → cells_from is_cell move cell more ≡ cell_moves is_cell holder takes action move cell more
  same_cells holder takes cell zero = refl
  same_cells holder takes cell (suc more) = ap (λ (z : List Move). cond (is_cell cell) (move cell ∷ []) [] ++ z) (same_cells holder takes (cell + 1) more)

-- all cells of the registered classes are below 64
low_range : (cell more : ℕ) → cell + more ≤ 62 → Each (λ c. c < 64) (range_with_len cell more ++ 62 ∷ 63 ∷ [])
low_range cell zero l = (omega arith, (omega arith, tt))
low_range cell (suc more) l = (omega (arith, l), low_range (cell + 1) more (omega (arith, l)))

pub low_cells : (setting : Setting) → Each (λ c. c < 64) (class_cells setting.classes)
low_cells setting = low_range 0 (length setting.classes.classes) (let l : length setting.classes.classes ≤ 62 = few_classes setting in omega (arith, l))

-- a connect asks for no moves
pub connect_moves : (words : List Word) (flags : ℕ) (after : Containers) (seat : Option Seated) → (connect_work words flags after seat).moves ≡ []
connect_moves words flags after None = refl
connect_moves words flags after (Some seat) = refl

module _ (back : AreBack) (found : AreFound) (setting : Setting) (kind : TableKind) (opening : State) (actions : ℕ → Action) (action : ℕ) where
  abbrev is_cell : ℕ → Bool
  is_cell = cells_of setting kind

  abbrev test : ℕ → Bool
  test = is_kind_row is_cell

  abbrev all_moves : List Move
  all_moves = moves_of (holder_of (board is_cell) opening actions) (takes_by (board is_cell) opening actions (kind_number kind)) action (kind_rows is_cell)

  abbrev asked : List Ask → List Move
  asked asks = moves_as action (moves_asked asks)

  abbrev before : State
  before = state_before opening actions action

  abbrev source : Found Session → Source
  source f = of.Thread (record { place = f.place; account = f.entry.account; user = f.entry.user; host = f.entry.host })

  past : (c : ℕ) → length setting.classes.classes ≤ c → c < 62 → is_cell c ≡ false
  past c l h = kind_past setting.classes.classes kind c l h

  quit_asks : (f : Found Session) → IsInRange (record { slot = f.place; connection = f.entry }) → entry_at before.threads f.place ≡ Some f.entry
      → line_of (kind_number kind) before (actions action) ≡ Quits f.place → moves_on test (asked (asks_of (class_cells setting.classes) (source f))) ≡ all_moves
  quit_asks f r entry line =
      asked_cells back is_cell action f.place r.slot f.entry.account f.entry.user f.entry.host r.places.account r.places.user r.places.host (class_cells setting.classes) (low_cells setting)
      ∙ (as_list (class_cells setting.classes)
      ∙ (cells_all is_cell own (length setting.classes.classes) (few_classes setting) past
      ∙ (same_cells is_cell action f.place f.entry.account f.entry.user f.entry.host (holder_of (board is_cell) opening actions) (takes_by (board is_cell) opening actions (kind_number kind)) 0 64
      ∙ sym (left back found is_cell opening actions (kind_number kind) action f r.slot entry line)))) where
        own : ℕ → Move
        own cell = record { action = action; from = 129 + 64 * f.place + cell; to = upper f.entry.account f.entry.user f.entry.host cell }

        as_list : (cells : List ℕ) → moved_cells back is_cell action f.place r.slot f.entry.account f.entry.user f.entry.host r.places.account r.places.user r.places.host cells ≡ of_list is_cell own cells
        as_list [] = refl
        as_list (cell ∷ cells) = ap (λ (z : List Move). cond (is_cell cell) (own cell ∷ []) [] ++ z) (as_list cells)

  none_asked : (asks : List Ask) → asks ≡ [] → ((place : Place) → line_takes (line_of (kind_number kind) before (actions action)) place ≡ false) → moves_on test (asked asks) ≡ all_moves
  none_asked asks e h = ap (λ z. moves_on test (asked z)) e ∙ sym (idle back found is_cell opening actions (kind_number kind) action h)

  pub asks_for : (s : Admin) (session : ℕ) (what : Change) → AreWell s.kept.now.places → s.cells ≡ class_cells setting.classes → s.kinds ≡ kinds_of setting → s.kept.now.places ≡ state_before opening actions action
      → actions action ≡ action_for session what
      → moves_on (is_kind_row (cells_of setting kind)) (moves_as action (moves_asked (work_for s session what).moves))
      ≡ moves_of (holder_of (board (cells_of setting kind)) opening actions) (takes_by (board (cells_of setting kind)) opening actions (kind_number kind)) action (kind_rows (cells_of setting kind))
  asks_for s session (changes.Connect user host) well cells kinds places e =
      none_asked _ (connect_moves s.words (thread_flags s user host) (connected s session user host).kept.now (seat_at s session user host))
      (λ place. ap (λ a. line_takes (line_of (kind_number kind) before a) place) e ∙ connect_idle before (kind_number kind) session user host place)
  asks_for s session (changes.Truncate what) well cells kinds places e =
      ap (λ z. moves_on test (asked (truncation_asks z s.kept.now.places what))) kinds
      ∙ (ap (λ z. moves_on test (asked (truncation_asks (kinds_of setting) z what))) places
      ∙ truncation_same back setting kind opening actions action (subst AreWell places well) what e)
  asks_for s session (changes.Setup what) well cells kinds places e =
      none_asked [] refl (λ place. ap (λ a. line_takes (line_of (kind_number kind) before a) place) e)
  asks_for s session changes.Quit well cells kinds places e = on (found_where (λ x. x.number == session) s.kept.now.places.threads) refl (seat_in_in s.kept.now session well) where
    line : line_of (kind_number kind) before (actions action) ≡ quit_line (found_where (λ x. x.number == session) s.kept.now.places.threads)
    line = ap (λ a. line_of (kind_number kind) before a) e ∙ ap (λ (z : State). quit_line (found_where (λ x. x.number == session) z.threads)) (sym places)

    on : (o : Option (Found Session)) → found_where (λ x. x.number == session) s.kept.now.places.threads ≡ o → IfSome (seated o) IsInRange
        → moves_on test (asked (quit_work s.words s.cells (has_quit s session).kept.now (seated o)).moves) ≡ all_moves
    on None q r = none_asked [] refl (λ place. ap (λ l. line_takes l place) (line ∙ ap quit_line q))
    on (Some f) q r =
        ap (λ z. moves_on test (asked (asks_of z (source f)))) cells
        ∙ quit_asks f r (ap (λ (z : State). entry_at z.threads f.place) (sym places) ∙ there.entry) (line ∙ ap quit_line q) where
          there : IsThere (λ x. x.number == session) s.kept.now.places.threads f
          there = found_there (λ x. x.number == session) s.kept.now.places.threads f q

  -- and all rows of what is asked are of one kind
  pub alike_for : (s : Admin) (session : ℕ) (what : Change) → AreWell s.kept.now.places → s.cells ≡ class_cells setting.classes → s.kinds ≡ kinds_of setting
      → AllAlike (is_kind_row (cells_of setting kind)) (moves_as action (moves_asked (work_for s session what).moves))
  alike_for s session (changes.Connect user host) well cells kinds = subst (λ z. AllAlike test (asked z)) (sym (connect_moves s.words (thread_flags s user host) (connected s session user host).kept.now (seat_at s session user host))) tt
  alike_for s session (changes.Truncate what) well cells kinds =
      subst (λ z. AllAlike test (asked (truncation_asks z s.kept.now.places what))) (sym kinds) (truncation_alike back setting kind action s.kept.now.places well what)
  alike_for s session (changes.Setup what) well cells kinds = tt
  alike_for s session changes.Quit well cells kinds = on (seat_in s session) (seat_in_in s.kept.now session well) where
    on : (o : Option Seated) → IfSome o IsInRange → AllAlike test (asked (quit_work s.words s.cells (has_quit s session).kept.now o).moves)
    on None r = tt
    on (Some seat) r = subst (λ z. AllAlike test (asked (asks_of z (of.Thread (record { place = seat.slot; account = seat.connection.account; user = seat.connection.user; host = seat.connection.host }))))) (sym cells)
        (all_alike back is_cell action seat.slot r.slot seat.connection.account seat.connection.user seat.connection.host r.places.account r.places.user r.places.host (class_cells setting.classes) (low_cells setting))

-- so of each action among the first n
module _ (back : AreBack) (found : AreFound) (setting : Setting) (change : Label → Change) (labels : List Label) (kind : TableKind) where
  minus : (k : ℕ) → suc k - 1 ≡ k
  minus k = omega arith

  labelled : (k : ℕ) → k < length labels → (label : Label) × (slice_get labels k ≡ Some label)
  labelled k l = at labels k l where
    at : (labels : List Label) (k : ℕ) → k < length labels → (label : Label) × (slice_get labels k ≡ Some label)
    at [] k l = absurd (omega (arith, l))
    at (label ∷ labels) zero l = (label, refl)
    at (label ∷ labels) (suc k) l = at labels k (omega (arith, l))

  moves_by : (k : ℕ) (label : Label) → slice_get labels k ≡ Some label → (asked_at setting change labels (suc k)).moves ≡ moves_asked (work_for (state_of setting change (take k labels)) label.session (change label)).moves
  moves_by k label q =
      ap (λ n. moves_asked (work_of_label change (state_of setting change (take n labels)) (slice_get labels k)).moves) (minus k)
      ∙ ap (λ o. moves_asked (work_of_label change (state_of setting change (take k labels)) o).moves) q

  pub asks_are : (n : ℕ) → n ≤ length labels → (k : ℕ) → k < n
      → moves_on (is_kind_row (cells_of setting kind)) (moves_as (suc k) (asked_at setting change labels (suc k)).moves) ≡ moves_at setting kind (actions_of change (take n labels)) (suc k)
  asks_are n few k l = on (labelled k (omega (arith, few, l))) where
    on : (label : Label) × (slice_get labels k ≡ Some label) → moves_on (is_kind_row (cells_of setting kind)) (moves_as (suc k) (asked_at setting change labels (suc k)).moves) ≡ moves_at setting kind (actions_of change (take n labels)) (suc k)
    on (label, q) =
        ap (λ z. moves_on (is_kind_row (cells_of setting kind)) (moves_as (suc k) z)) (moves_by k label q)
        ∙ asks_for back found setting kind (opened_by (limits_of setting)) (numbered (actions_of change (take n labels))) (suc k) (state_of setting change (take k labels)) label.session (change label)
        (fold_well setting change (take k labels)) (fold_cells setting change (take k labels)) (fold_kinds setting change (take k labels))
        (ap (λ z. (state_of setting change z).kept.now.places) (sym (front_front labels n k (omega (arith, l)))) ∙ fold_places setting change (take n labels) k (let e : length (take n labels) ≡ n = front_length labels n few in omega (arith, e, l)))
        (numbered_at change (take n labels) k label (front_get labels n k l ∙ q))

  pub alike_are : (k : ℕ) → k < length labels → AllAlike (is_kind_row (cells_of setting kind)) (moves_as (suc k) (asked_at setting change labels (suc k)).moves)
  alike_are k l = on (labelled k l) where
    on : (label : Label) × (slice_get labels k ≡ Some label) → AllAlike (is_kind_row (cells_of setting kind)) (moves_as (suc k) (asked_at setting change labels (suc k)).moves)
    on (label, q) =
        subst (λ z. AllAlike (is_kind_row (cells_of setting kind)) (moves_as (suc k) z)) (sym (moves_by k label q))
        (alike_for back found setting kind (opened_by (limits_of setting)) (numbered []) (suc k) (state_of setting change (take k labels)) label.session (change label)
        (fold_well setting change (take k labels)) (fold_cells setting change (take k labels)) (fold_kinds setting change (take k labels)))

  -- and a number of no action moves nothing
  pub none_are : (actions : List Action) (action : ℕ) → numbered actions action ≡ Other → moves_at setting kind actions action ≡ []
  none_are actions action e =
      idle back found (cells_of setting kind) (opened_by (limits_of setting)) (numbered actions) (kind_number kind) action
      (λ place. ap (λ a. line_takes (line_of (kind_number kind) (state_before (opened_by (limits_of setting)) (numbered actions) action) a) place) e)
