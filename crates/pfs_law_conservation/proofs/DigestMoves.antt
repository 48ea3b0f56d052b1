-- What is asked of an action among the rows of digests: all of them by a TRUNCATE of their table, and none by another.
use Rattle.std.proofs.Common.{◌≡◌, refl, ℕ, zero, suc, ◌+◌, ◌-◌, ◌<◌, ◌≤◌, ◌==◌, ◌&&◌, Bool, true, false, cond, nat_lt, List, [], ◌∷◌, ◌++◌, length, take, Option, Some, None, count_by, sym, ap, subst, ◌∙◌, arith}
use Rattle.std.specs.Prelude.{IfSome}
use Rattle.pfs_admin.proofs.KindCells.{kinds_fit}
use Rattle.pfs_admin.specs.ConnectionAsks.{quit_work}
use Rattle.pfs_admin.specs.Fold.{state_of}
use Rattle.pfs_admin.specs.OpeningState.{cells_of as class_cells, kinds_of}
use Rattle.pfs_admin.specs.AdministrationStates.{State, kind_cells, seat_in, seat_at, thread_flags, connected, has_quit}
use Rattle.pfs_admin.specs.WordChanges.{up_to}
use Rattle.pfs_admin.specs.Truncations.{digest_ask, digest_asks, truncation_asks}
use Rattle.pfs_admin.specs.declared.changes.Change.{Change}
use Rattle.pfs_admin.specs.declared.changes.Change.TheVariants as changes
use Rattle.pfs_law_session.specs.Demands.{moves_asked}
use Rattle.pfs_board.specs.declared.view.Label.{Label}
use Rattle.pfs_classes.specs.declared.setting.Setting.{Setting}
use Rattle.pfs_conservation.specs.ActionMoves.{moves_of}
use Rattle.pfs_conservation.specs.DigestClears.{held, clears}
use Rattle.pfs_conservation.specs.RowMoves.{Move}
use Rattle.pfs_containers.specs.Connections.{State as Places}
use Rattle.pfs_containers.specs.ContainerState.{AreWell, IsInRange}
use Rattle.pfs_containers.specs.declared.containers.Seated.{Seated}
use Rattle.pfs_levels.specs.Flushes.{beyond, upper, asks_of}
use Rattle.pfs_levels.specs.Moves.{Ask, ask}
use Rattle.pfs_levels.specs.declared.flushes.Source.TheVariants as of
use Rattle.pfs_levels.specs.declared.places.Up.{Up}
use Rattle.pfs_model.specs.Chains.{Each}
use Rattle.pfs_model.specs.SummaryCounts.{is_digest_row}
use Rattle.pfs_rows.specs.Rows.{row_number}
use Rattle.pfs_rows.specs.declared.place.Place.TheVariants.{DigestNull}
use Rattle.pfs_rows.specs.declared.table.SummaryTable.TheVariants as tables
use Rattle.pfs_rows.specs.declared.table.TableKind.{TableKind}
use Rattle.pfs_runs.specs.Labels.{work_for, work_of_label, label_at, asked_at}
use Rattle.pfs_rows.specs.declared.truncations.Truncation.{Truncation}
use Rattle.pfs_rows.specs.declared.truncations.Truncation.TheVariants.{Events, Summary, DigestSummary, Accounts, Users, Hosts, SetupActors, SetupObjects}
use Rattle.pfs_law_conservation.specs.RunDigests.{rows_from, digest_rows, is_clearing, clears_by}
use Rattle.pfs_law_conservation.proofs.LabelMoves.{connect_moves, low_cells}
use Rattle.pfs_law_conservation.proofs.MoveLevels.{IsPlaced, IsAsking, each_summary, each_kinds, low_each}
use Rattle.pfs_law_conservation.proofs.DigestRanges.{row_below, row_inside, rows_more, all_listed, digests_few}
use Rattle.pfs_law_conservation.proofs.PrintedMoves.{moves_as, moves_on, AreAlike, AllAlike}
use Rattle.pfs_law_conservation.proofs.QuitMoves.{IsLow}
use Rattle.pfs_law_conservation.proofs.FixedCells.{fold_cells, fold_kinds}
use Rattle.pfs_law_plain.proofs.SessionPlaces.{fold_well, seat_in_in}

-- the rows of cells are below those of digests
abbrev AreBelow : List ℕ → Type 0
AreBelow to = Each (λ row. row < 8385) to

abbrev IsBelow : Ask → Type 0
IsBelow a = (a.from < 8385) × AreBelow a.to

below_beyond : (cell : ℕ) → cell < 64 → (user host : Option ℕ) → IsLow user → IsLow host → AreBelow (beyond user host cell)
below_beyond cell c (Some user) (Some host) u h = (omega (arith, u, c), (omega (arith, h, c), tt))
below_beyond cell c (Some user) None u h = (omega (arith, u, c), (omega (arith, c), tt))
below_beyond cell c None (Some host) u h = (omega (arith, h, c), tt)
below_beyond cell c None None u h = (omega (arith, c), tt)

below_upper : (cell : ℕ) → cell < 64 → (account user host : Option ℕ) → IsLow account → IsLow user → IsLow host → AreBelow (upper account user host cell)
below_upper cell c (Some account) user host a u h = (omega (arith, a, c), tt)
below_upper cell c None user host a u h = below_beyond cell c user host u h

below_cells : (cell : ℕ) → cell < 64 → IsAsking IsBelow cell
below_cells cell c = record {
  thread = λ (up : Up) (p : IsPlaced up). (let l : up.place < 32 = p.place in (omega (arith, l, c), below_upper cell c up.account up.user up.host p.account p.user p.host));
  account = λ (up : Up) (p : IsPlaced up). (let l : up.place < 32 = p.place in (omega (arith, l, c), below_beyond cell c up.user up.host p.user p.host));
  user = λ place l. (omega (arith, l, c), tt);
  host = λ place l. (omega (arith, l, c), (omega (arith, c), tt));
  global = (omega (arith, c), tt);
}

-- what is asked among the rows of digests
module _ (action : ℕ) where
  abbrev move : Ask → Move
  move a = record { action = action; from = a.from; to = a.to }

  abbrev asked : List Ask → List Move
  asked asks = moves_on is_digest_row (moves_as action (moves_asked asks))

  asked_then : (xs ys : List Ask) → asked (xs ++ ys) ≡ asked xs ++ asked ys
  asked_then [] ys = refl
  asked_then (x ∷ xs) ys = at (is_digest_row x.from) (asked_then xs ys) where
    at : (b : Bool) → asked (xs ++ ys) ≡ asked xs ++ asked ys → cond b (move x ∷ []) [] ++ asked (xs ++ ys) ≡ (cond b (move x ∷ []) [] ++ asked xs) ++ asked ys
    at true e = ap (λ (z : List Move). move x ∷ z) e
    at false e = e

  none_asked : (asks : List Ask) → Each IsBelow asks → asked asks ≡ []
  none_asked [] h = refl
  none_asked (a ∷ asks) h = ap (λ b. cond b (move a ∷ []) [] ++ asked asks) (row_below a.from h.0.0) ∙ none_asked asks h.1

  alike_below : (asks : List Ask) → Each IsBelow asks → AllAlike is_digest_row (moves_as action (moves_asked asks))
  alike_below [] h = tt
  alike_below (a ∷ asks) h = (each a.to h.0.1, alike_below asks h.1) where
    each : (to : List ℕ) → AreBelow to → AreAlike is_digest_row a.from to
    each [] k = tt
    each (row ∷ to) k = (row_below row k.0 ∙ sym (row_below a.from h.0.0), each to k.1)

  -- rows that are cleared, one after another
  abbrev cleared_rows : List ℕ → List Move
  cleared_rows [] = []
  cleared_rows (row ∷ rows) = record { action = action; from = row; to = [] } ∷ cleared_rows rows

  cleared_then : (xs ys : List ℕ) → cleared_rows (xs ++ ys) ≡ cleared_rows xs ++ cleared_rows ys
  cleared_then [] ys = refl
  cleared_then (x ∷ xs) ys = ap (λ (z : List Move). record { action = action; from = x; to = [] } ∷ z) (cleared_then xs ys)

  clearing_asked : (n : ℕ) → n ≤ 65 → asked (up_to digest_ask n) ≡ cleared_rows (rows_from 8385 n)
  clearing_asked zero l = refl
  clearing_asked (suc n) l =
      asked_then (up_to digest_ask n) (digest_ask n)
      ∙ (ap (λ (z : List Move). z ++ asked (digest_ask n)) (clearing_asked n (omega (arith, l)))
      ∙ (ap (λ b. cleared_rows (rows_from 8385 n) ++ (cond b (move (ask (row_number DigestNull + n) []) ∷ []) [] ++ [])) (row_inside (row_number DigestNull + n) (omega arith) (omega (arith, l)))
      ∙ sym (ap cleared_rows (rows_more 8385 n) ∙ cleared_then (rows_from 8385 n) ((8385 + n) ∷ []))))

  alike_clearing : (n : ℕ) → AllAlike is_digest_row (moves_as action (moves_asked (up_to digest_ask n)))
  alike_clearing zero = tt
  alike_clearing (suc n) = join (up_to digest_ask n) (digest_ask n) (alike_clearing n) (tt, tt) where
    join : (xs ys : List Ask) → AllAlike is_digest_row (moves_as action (moves_asked xs)) → AllAlike is_digest_row (moves_as action (moves_asked ys)) → AllAlike is_digest_row (moves_as action (moves_asked (xs ++ ys)))
    join [] ys a b = b
    join (x ∷ xs) ys a b = (a.0, join xs ys a.1 b)

  -- what clears the rows, and what does not
  clears_all : (cleared : ℕ → Bool) (rows some : List ℕ) → cleared action ≡ true → Each (λ row. nat_lt 0 (count_by (λ r. r == row) rows) ≡ true) some → moves_of held (clears cleared rows) action some ≡ cleared_rows some
  clears_all cleared rows [] q h = refl
  clears_all cleared rows (row ∷ some) q h =
      ap (λ b. cond b (record { action = action; from = row; to = [] } ∷ []) [] ++ moves_of held (clears cleared rows) action some) (ap (λ b. b && nat_lt 0 (count_by (λ r. r == row) rows)) q ∙ h.0)
      ∙ ap (λ (z : List Move). record { action = action; from = row; to = [] } ∷ z) (clears_all cleared rows some q h.1)

  clears_none : (cleared : ℕ → Bool) (rows some : List ℕ) → cleared action ≡ false → moves_of held (clears cleared rows) action some ≡ []
  clears_none cleared rows [] q = refl
  clears_none cleared rows (row ∷ some) q =
      ap (λ b. cond (b && nat_lt 0 (count_by (λ r. r == row) rows)) (record { action = action; from = row; to = [] } ∷ []) [] ++ moves_of held (clears cleared rows) action some) q
      ∙ clears_none cleared rows some q

  pub none_cleared : (setting : Setting) (cleared : ℕ → Bool) → cleared action ≡ false → moves_of held (clears cleared (digest_rows setting)) action (digest_rows setting) ≡ []
  none_cleared setting cleared q = clears_none cleared (digest_rows setting) (digest_rows setting) q

  all_cleared : (setting : Setting) (cleared : ℕ → Bool) → cleared action ≡ true → moves_of held (clears cleared (digest_rows setting)) action (digest_rows setting) ≡ cleared_rows (digest_rows setting)
  all_cleared setting cleared q = clears_all cleared (digest_rows setting) (digest_rows setting) q (all_listed setting)

  table_cleared : (setting : Setting) → asked (digest_asks (kinds_of setting).digests) ≡ cleared_rows (digest_rows setting)
  unfolding digest_asks digest_rows kinds_of
  table_cleared setting =
      ap (λ n. asked (up_to digest_ask n)) (plus (length setting.digests))
      ∙ clearing_asked (suc (length setting.digests)) (let l : length setting.digests ≤ 64 = digests_few setting in omega (arith, l)) where
        plus : (n : ℕ) → n + 1 ≡ suc n
        plus n = omega arith

  table_alike : (setting : Setting) → AllAlike is_digest_row (moves_as action (moves_asked (digest_asks (kinds_of setting).digests)))
  unfolding digest_asks
  table_alike setting = alike_clearing ((kinds_of setting).digests + 1)

-- any other truncation asks for rows of cells alone
below_kind : (setting : Setting) (kind : TableKind) → Each (IsAsking IsBelow) (kind_cells (kinds_of setting) kind)
below_kind setting kind = low_each (IsAsking IsBelow) below_cells (kind_cells (kinds_of setting) kind) ((kinds_fit setting).small kind)

truncation_below : (setting : Setting) (s : Places) (what : Truncation) → AreWell s → is_clearing (changes.Truncate what) ≡ false → Each IsBelow (truncation_asks (kinds_of setting) s what)
truncation_below setting s (Events kind table) well q = tt
truncation_below setting s (Summary kind table) well q = each_summary IsBelow s table (kind_cells (kinds_of setting) kind) well (below_kind setting kind)
truncation_below setting s Accounts well q = each_kinds IsBelow (kinds_of setting) s tables.ByAccount well (below_kind setting)
truncation_below setting s Users well q = each_kinds IsBelow (kinds_of setting) s tables.ByUser well (below_kind setting)
truncation_below setting s Hosts well q = each_kinds IsBelow (kinds_of setting) s tables.ByHost well (below_kind setting)
truncation_below setting s DigestSummary well q = absurd (cc)
truncation_below setting s SetupActors well q = tt
truncation_below setting s SetupObjects well q = tt

-- and so does a quit
slot_below : (slot : ℕ) (account user host : Option ℕ) (cells : List ℕ) → IsPlaced (record { place = slot; account = account; user = user; host = host }) → Each (λ c. c < 64) cells
    → Each IsBelow (asks_of cells (of.Thread (record { place = slot; account = account; user = user; host = host })))
slot_below slot account user host [] p h = tt
slot_below slot account user host (cell ∷ cells) p h = ((below_cells cell h.0).thread (record { place = slot; account = account; user = user; host = host }) p, slot_below slot account user host cells p h.1)

quit_below : (setting : Setting) (s : State) (session : ℕ) → AreWell s.kept.now.places → s.cells ≡ class_cells setting.classes → Each IsBelow (work_for s session changes.Quit).moves
quit_below setting s session well cells = on (seat_in s session) (seat_in_in s.kept.now session well) where
  on : (o : Option Seated) → IfSome o IsInRange → Each IsBelow (quit_work s.words s.cells (has_quit s session).kept.now o).moves
  on None r = tt
  on (Some seat) r =
      slot_below seat.slot seat.connection.account seat.connection.user seat.connection.host s.cells
      (record { place = r.slot; account = r.places.account; user = r.places.user; host = r.places.host }) (subst (Each (λ c. c < 64)) (sym cells) (low_cells setting))

-- of a change
module _ (setting : Setting) (action : ℕ) (cleared : ℕ → Bool) where
  abbrev Cleared : List Move
  Cleared = moves_of held (clears cleared (digest_rows setting)) action (digest_rows setting)

  below_none : (asks : List Ask) → Each IsBelow asks → cleared action ≡ false → asked action asks ≡ moves_of held (clears cleared (digest_rows setting)) action (digest_rows setting)
  below_none asks h q = none_asked action asks h ∙ sym (none_cleared action setting cleared q)

  asked_for : (s : State) (session : ℕ) (what : Change) → AreWell s.kept.now.places → s.cells ≡ class_cells setting.classes → s.kinds ≡ kinds_of setting → cleared action ≡ is_clearing what
      → asked action (work_for s session what).moves ≡ moves_of held (clears cleared (digest_rows setting)) action (digest_rows setting)
  asked_for s session (changes.Connect user host) well cells kinds q =
      ap (asked action) (connect_moves s.words (thread_flags s user host) (connected s session user host).kept.now (seat_at s session user host)) ∙ below_none [] tt q
  asked_for s session (changes.Truncate DigestSummary) well cells kinds q =
      ap (λ z. asked action (truncation_asks z s.kept.now.places DigestSummary)) kinds ∙ (table_cleared action setting ∙ sym (all_cleared action setting cleared q))
  asked_for s session (changes.Truncate what) well cells kinds q =
      ap (λ z. asked action (truncation_asks z s.kept.now.places what)) kinds ∙ below_none (truncation_asks (kinds_of setting) s.kept.now.places what) (truncation_below setting s.kept.now.places what well refl) q
  asked_for s session (changes.Setup what) well cells kinds q = below_none [] tt q
  asked_for s session changes.Quit well cells kinds q = below_none (work_for s session changes.Quit).moves (quit_below setting s session well cells) q

  alike_for : (s : State) (session : ℕ) (what : Change) → AreWell s.kept.now.places → s.cells ≡ class_cells setting.classes → s.kinds ≡ kinds_of setting
      → AllAlike is_digest_row (moves_as action (moves_asked (work_for s session what).moves))
  alike_for s session (changes.Connect user host) well cells kinds =
      subst (λ z. AllAlike is_digest_row (moves_as action (moves_asked z))) (sym (connect_moves s.words (thread_flags s user host) (connected s session user host).kept.now (seat_at s session user host))) tt
  alike_for s session (changes.Truncate DigestSummary) well cells kinds =
      subst (λ z. AllAlike is_digest_row (moves_as action (moves_asked (truncation_asks z s.kept.now.places DigestSummary)))) (sym kinds) (table_alike action setting)
  alike_for s session (changes.Truncate what) well cells kinds =
      subst (λ z. AllAlike is_digest_row (moves_as action (moves_asked (truncation_asks z s.kept.now.places what)))) (sym kinds)
      (alike_below action (truncation_asks (kinds_of setting) s.kept.now.places what) (truncation_below setting s.kept.now.places what well refl))
  alike_for s session (changes.Setup what) well cells kinds = tt
  alike_for s session changes.Quit well cells kinds = alike_below action (work_for s session changes.Quit).moves (quit_below setting s session well cells)

-- of the action of a number
module _ (setting : Setting) (change : Label → Change) (labels : List Label) (number : ℕ) where
  abbrev before : State
  before = state_of setting change (take (number - 1) labels)

  pub asked_rows : (cleared : ℕ → Bool) → cleared number ≡ clears_by change (label_at labels number)
      → moves_on is_digest_row (moves_as number (asked_at setting change labels number).moves) ≡ moves_of held (clears cleared (digest_rows setting)) number (digest_rows setting)
  asked_rows cleared = on (label_at labels number) where
    on : (o : Option Label) → cleared number ≡ clears_by change o → moves_on is_digest_row (moves_as number (moves_asked (work_of_label change before o).moves)) ≡ moves_of held (clears cleared (digest_rows setting)) number (digest_rows setting)
    on None q = below_none setting number cleared [] tt q
    on (Some label) q = asked_for setting number cleared before label.session (change label) (fold_well setting change (take (number - 1) labels)) (fold_cells setting change (take (number - 1) labels)) (fold_kinds setting change (take (number - 1) labels)) q

  pub alike_rows : AllAlike is_digest_row (moves_as number (asked_at setting change labels number).moves)
  alike_rows = on (label_at labels number) where
    on : (o : Option Label) → AllAlike is_digest_row (moves_as number (moves_asked (work_of_label change before o).moves))
    on None = tt
    on (Some label) = alike_for setting number (λ n. false) before label.session (change label) (fold_well setting change (take (number - 1) labels)) (fold_cells setting change (take (number - 1) labels)) (fold_kinds setting change (take (number - 1) labels))
