-- What an action gives goes from the rows that it takes to rows of higher levels, of the same kind.
use Rattle.std.proofs.Common.{◌≡◌, ℕ, suc, ◌+◌, ◌-◌, ◌<◌, ◌≤◌, Bool, true, false, cond, List, [], ◌∷◌, ◌++◌, take, Option, Some, None, sym, subst, arith}
use Rattle.std.specs.Prelude.{IfSome}
use Rattle.pfs_model.proofs.EachLists.{each_join}
use Rattle.pfs_admin.specs.ConnectionAsks.{quit_work}
use Rattle.pfs_admin.specs.Fold.{state_of}
use Rattle.pfs_admin.specs.OpeningState.{cells_of as class_cells, kinds_of}
use Rattle.pfs_admin.proofs.KindCells.{kinds_fit}
use Rattle.pfs_admin.specs.AdministrationStates.{State, kind_cells, seat_in, seat_at, thread_flags, connected, has_quit}
use Rattle.pfs_admin.specs.Truncations.{truncation_asks}
use Rattle.pfs_admin.specs.declared.changes.Change.{Change}
use Rattle.pfs_admin.specs.declared.changes.Change.TheVariants as changes
use Rattle.pfs_law_session.specs.Demands.{moves_asked}
use Rattle.pfs_board.specs.declared.view.Label.{Label}
use Rattle.pfs_classes.specs.declared.setting.Setting.{Setting}
use Rattle.pfs_conservation.specs.CellHolders.{opened_by}
use Rattle.pfs_conservation.specs.AdministrationFold.{numbered}
use Rattle.pfs_containers.specs.ContainerState.{AreWell, IsInRange}
use Rattle.pfs_containers.specs.declared.containers.Seated.{Seated}
use Rattle.pfs_levels.specs.Flushes.{asks_of}
use Rattle.pfs_levels.specs.Moves.{Ask, ask}
use Rattle.pfs_rows.specs.Rows.{row_number}
use Rattle.pfs_rows.specs.declared.place.Place.TheVariants.{DigestNull}
use Rattle.pfs_levels.specs.declared.flushes.Source.TheVariants as of
use Rattle.pfs_model.specs.ActionAsks.{Did, Took, Gave, Move, Sign, Frees, Tags, Flagging, given_to, moved_by, signed_by, flagged_by, asked_of}
use Rattle.pfs_model.specs.Chains.{Each}
use Rattle.pfs_rows.specs.declared.table.TableKind.{TableKind}
use Rattle.pfs_runs.specs.Labels.{work_for, work_of_label, label_at, asked_at}
use Rattle.pfs_law_conservation.specs.KindRows.{cells_of, is_kind_row, limits_of}
use Rattle.pfs_law_conservation.proofs.LabelMoves.{connect_moves, low_cells, alike_for}
use Rattle.pfs_law_conservation.proofs.MoveLevels.{IsPlaced, IsAsking, IsClimbing, Climbs, row_level, climbing, each_truncation, low_each}
use Rattle.pfs_law_conservation.proofs.PrintedMoves.{moves_as, AreAlike, AllAlike}
use Rattle.pfs_law_conservation.proofs.SlotMoves.{AreBack, AreFound}
use Rattle.pfs_law_conservation.proofs.FixedCells.{fold_cells, fold_kinds}
use Rattle.pfs_law_plain.proofs.SessionPlaces.{fold_well, seat_in_in}

-- what goes from a row of a cell goes to rows of higher levels
abbrev pub IsGoing : Move → Type 0
IsGoing m = (129 ≤ m.from) × Climbs m.from m.to

asked_going : (asks : List Ask) → Each IsClimbing asks → Each IsGoing (moves_asked asks)
asked_going [] h = tt
asked_going (a ∷ asks) h = (h.0, asked_going asks h.1)

slot_going : (slot : ℕ) (account user host : Option ℕ) (cells : List ℕ) → IsPlaced (record { place = slot; account = account; user = user; host = host }) → Each (λ c. c < 64) cells
    → Each IsGoing (moves_asked (asks_of cells (of.Thread (record { place = slot; account = account; user = user; host = host }))))
slot_going slot account user host [] p h = tt
slot_going slot account user host (cell ∷ cells) p h = ((climbing cell h.0).thread (record { place = slot; account = account; user = user; host = host }) p, slot_going slot account user host cells p h.1)

-- a row of digests is cleared, so nothing goes from it
digest_climbing : (at : ℕ) → IsClimbing (ask (row_number DigestNull + at) [])
digest_climbing at = (omega arith, tt)

going_for : (setting : Setting) (s : State) (session : ℕ) (what : Change) → AreWell s.kept.now.places → s.cells ≡ class_cells setting.classes → s.kinds ≡ kinds_of setting → Each IsGoing (moves_asked (work_for s session what).moves)
going_for setting s session (changes.Connect user host) well cells kinds =
    subst (λ z. Each IsGoing (moves_asked z)) (sym (connect_moves s.words (thread_flags s user host) (connected s session user host).kept.now (seat_at s session user host))) tt
going_for setting s session (changes.Truncate what) well cells kinds =
    subst (λ z. Each IsGoing (moves_asked (truncation_asks z s.kept.now.places what))) (sym kinds)
    (asked_going (truncation_asks (kinds_of setting) s.kept.now.places what)
    (each_truncation IsClimbing (kinds_of setting) s.kept.now.places what well (λ kind. low_each (IsAsking IsClimbing) climbing (kind_cells (kinds_of setting) kind) ((kinds_fit setting).small kind)) (kinds_fit setting).digests_few (λ at low. digest_climbing at)))
going_for setting s session (changes.Setup what) well cells kinds = tt
going_for setting s session changes.Quit well cells kinds = on (seat_in s session) (seat_in_in s.kept.now session well) where
  on : (o : Option Seated) → IfSome o IsInRange → Each IsGoing (moves_asked (quit_work s.words s.cells (has_quit s session).kept.now o).moves)
  on None r = tt
  on (Some seat) r =
      slot_going seat.slot seat.connection.account seat.connection.user seat.connection.host s.cells
      (record { place = r.slot; account = r.places.account; user = r.places.user; host = r.places.host }) (subst (Each (λ c. c < 64)) (sym cells) (low_cells setting))

-- what was done is of this way
abbrev pub IsWay : (ℕ → Bool) → Did → Type 0
IsWay test (Took row) = 129 ≤ row
IsWay test (Gave row from) = (suc (row_level from) ≤ row_level row) × (test row ≡ test from)
IsWay test _ = Unit {0}

module _ (test : ℕ → Bool) (setting : Setting) (change : Label → Change) (labels : List Label) (number : ℕ) (alike : AllAlike test (moves_as number (asked_at setting change labels number).moves)) where
  abbrev before : State
  before = state_of setting change (take (number - 1) labels)

  going : Each IsGoing (asked_at setting change labels number).moves
  going = on (label_at labels number) where
    on : (o : Option Label) → Each IsGoing (moves_asked (work_of_label change before o).moves)
    on None = tt
    on (Some label) = going_for setting before label.session (change label) (fold_well setting change (take (number - 1) labels)) (fold_cells setting change (take (number - 1) labels)) (fold_kinds setting change (take (number - 1) labels))

  signed_ways : (signs : List Sign) → Each (IsWay test) (signed_by signs)
  signed_ways [] = tt
  signed_ways (Frees row ∷ signs) = (tt, signed_ways signs)
  signed_ways (Tags row ∷ signs) = (tt, signed_ways signs)

  flagged_ways : (flags : List Flagging) → Each (IsWay test) (flagged_by flags)
  flagged_ways [] = tt
  flagged_ways (one ∷ others) = (tt, flagged_ways others)

  given_ways : (from : ℕ) (to : List ℕ) → Climbs from to → AreAlike test from to → Each (IsWay test) (given_to from to)
  given_ways from [] h a = tt
  given_ways from (row ∷ to) h a = ((h.0, a.0), given_ways from to h.1 a.1)

  moved_ways : (counted : ℕ → Bool) (moves : List Move) → Each IsGoing moves → AllAlike test (moves_as number moves) → Each (IsWay test) (moved_by counted moves)
  moved_ways counted [] g a = tt
  moved_ways counted (m ∷ ms) g a = (g.0.0, each_join (IsWay test) (cond (counted m.from) (given_to m.from m.to) []) (moved_by counted ms) (given (counted m.from)) (moved_ways counted ms g.1 a.1)) where
    given : (b : Bool) → Each (IsWay test) (cond b (given_to m.from m.to) [])
    given true = given_ways m.from m.to g.0.1 a.0
    given false = tt

  pub ways_asked : (counted : ℕ → Bool) → Each (IsWay test) (asked_of counted (asked_at setting change labels number))
  ways_asked counted =
      each_join (IsWay test) (moved_by counted (asked_at setting change labels number).moves) _ (moved_ways counted (asked_at setting change labels number).moves going alike)
      (each_join (IsWay test) (signed_by (asked_at setting change labels number).signs) _ (signed_ways (asked_at setting change labels number).signs) (flagged_ways (asked_at setting change labels number).sets))

-- of a kind's rows
pub asked_ways : AreBack → AreFound → (setting : Setting) (change : Label → Change) (labels : List Label) (kind : TableKind) (number : ℕ) (counted : ℕ → Bool)
    → Each (IsWay (is_kind_row (cells_of setting kind))) (asked_of counted (asked_at setting change labels number))
asked_ways back found setting change labels kind number counted = ways_asked (is_kind_row (cells_of setting kind)) setting change labels number alike counted where
  test : ℕ → Bool
  test = is_kind_row (cells_of setting kind)

  before : State
  before = state_of setting change (take (number - 1) labels)

  alike : AllAlike (is_kind_row (cells_of setting kind)) (moves_as number (asked_at setting change labels number).moves)
  alike = on (label_at labels number) where
    on : (o : Option Label) → AllAlike test (moves_as number (moves_asked (work_of_label change before o).moves))
    on None = tt
    on (Some label) = alike_for back found setting kind (opened_by (limits_of setting)) (numbered []) number before label.session (change label) (fold_well setting change (take (number - 1) labels)) (fold_cells setting change (take (number - 1) labels)) (fold_kinds setting change (take (number - 1) labels))
