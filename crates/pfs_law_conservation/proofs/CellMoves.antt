-- What an action takes and gives are rows above the info rows and below the rings: cells of threads, accounts, users and
-- hosts, global ones, and digests.
use Rattle.std.proofs.Common.{ℕ, ◌≡◌, ◌-◌, ◌<◌, ◌≤◌, Bool, true, false, cond, List, [], ◌∷◌, ◌++◌, take, Option, Some, None, sym, subst, arith}
use Rattle.std.specs.Prelude.{IfSome}
use Rattle.pfs_model.proofs.EachLists.{each_join}
use Rattle.pfs_admin.proofs.KindCells.{kinds_fit}
use Rattle.pfs_admin.specs.ConnectionAsks.{quit_work, up_of}
use Rattle.pfs_admin.specs.Fold.{state_of}
use Rattle.pfs_admin.specs.OpeningState.{cells_of as class_cells, kinds_of}
use Rattle.pfs_admin.specs.AdministrationStates.{State, connected, has_quit, kind_cells, seat_at, seat_in, thread_flags}
use Rattle.pfs_admin.specs.Truncations.{truncation_asks}
use Rattle.pfs_admin.specs.declared.changes.Change.{Change}
use Rattle.pfs_admin.specs.declared.changes.Change.TheVariants as changes
use Rattle.pfs_law_session.specs.Demands.{moves_asked}
use Rattle.pfs_board.specs.declared.view.Label.{Label}
use Rattle.pfs_classes.specs.declared.setting.Setting.{Setting}
use Rattle.pfs_containers.specs.ContainerState.{AreWell, IsInRange}
use Rattle.pfs_containers.specs.declared.containers.Seated.{Seated}
use Rattle.pfs_levels.specs.Flushes.{asks_of, beyond, upper}
use Rattle.pfs_levels.specs.Moves.{Ask}
use Rattle.pfs_levels.specs.declared.flushes.Source.TheVariants as of
use Rattle.pfs_levels.specs.declared.places.Up.{Up}
use Rattle.pfs_model.specs.ActionAsks.{Did, Flagging, Frees, Gave, Move, Sign, Tags, Took, asked_of, flagged_by, given_to, moved_by, signed_by}
use Rattle.pfs_model.specs.Chains.{Each}
use Rattle.pfs_runs.specs.Labels.{asked_at, label_at, work_for, work_of_label}
use Rattle.pfs_law_conservation.proofs.LabelMoves.{connect_moves, low_cells}
use Rattle.pfs_law_conservation.proofs.MoveLevels.{IsAsking, IsPlaced, each_truncation, low_each}
use Rattle.pfs_law_conservation.proofs.QuitMoves.{IsLow}
use Rattle.pfs_law_conservation.proofs.FixedCells.{fold_cells, fold_kinds}
use Rattle.pfs_law_plain.proofs.SessionPlaces.{fold_well, seat_in_in}

abbrev IsBetween : ℕ → Type 0
IsBetween row = (129 ≤ row) × (row < 8450)

abbrev AreBetween : List ℕ → Type 0
AreBetween rows = Each IsBetween rows

beyond_between : (user host : Option ℕ) (cell : ℕ) → cell < 64 → IsLow user → IsLow host → AreBetween (beyond user host cell)
beyond_between (Some user) (Some host) cell c u h = ((omega arith, omega (arith, c, u)), ((omega arith, omega (arith, c, h)), tt))
beyond_between (Some user) None cell c u h = ((omega arith, omega (arith, c, u)), ((omega arith, omega (arith, c)), tt))
beyond_between None (Some host) cell c u h = ((omega arith, omega (arith, c, h)), tt)
beyond_between None None cell c u h = ((omega arith, omega (arith, c)), tt)

upper_between : (account user host : Option ℕ) (cell : ℕ) → cell < 64 → IsLow account → IsLow user → IsLow host → AreBetween (upper account user host cell)
upper_between (Some account) user host cell c a u h = ((omega arith, omega (arith, c, a)), tt)
upper_between None user host cell c a u h = beyond_between user host cell c u h

-- what is asked of a cell, at each level
abbrev IsCellAsk : Ask → Type 0
IsCellAsk a = IsBetween a.from × AreBetween a.to

cell_ask : (cell : ℕ) → cell < 64 → IsAsking IsCellAsk cell
cell_ask cell c = record {
  thread = λ (up : Up) (p : IsPlaced up). (let l : up.place < 32 = p.place in ((omega arith, omega (arith, l, c)), upper_between up.account up.user up.host cell c p.account p.user p.host));
  account = λ (up : Up) (p : IsPlaced up). (let l : up.place < 32 = p.place in ((omega arith, omega (arith, l, c)), beyond_between up.user up.host cell c p.user p.host));
  user = λ place l. ((omega arith, omega (arith, l, c)), tt);
  host = λ place l. ((omega arith, omega (arith, l, c)), ((omega arith, omega (arith, c)), tt));
  global = ((omega arith, omega (arith, c)), tt);
}

slot_asks : (up : Up) (cells : List ℕ) → IsPlaced up → Each (λ cell. cell < 64) cells → Each IsCellAsk (asks_of cells (of.Thread up))
slot_asks up [] p h = tt
slot_asks up (cell ∷ cells) p h = ((cell_ask cell h.0).thread up p, slot_asks up cells p h.1)

-- and so is what an action moves
abbrev IsCellMove : Move → Type 0
IsCellMove m = IsBetween m.from × AreBetween m.to

asked_moves : (asks : List Ask) → Each IsCellAsk asks → Each IsCellMove (moves_asked asks)
asked_moves [] h = tt
asked_moves (a ∷ asks) h = (h.0, asked_moves asks h.1)

moved_for : (setting : Setting) (s : State) (session : ℕ) (what : Change) → AreWell s.kept.now.places → s.cells ≡ class_cells setting.classes → s.kinds ≡ kinds_of setting → Each IsCellMove (moves_asked (work_for s session what).moves)
moved_for setting s session (changes.Connect user host) well cells kinds =
    subst (λ z. Each IsCellMove (moves_asked z)) (sym (connect_moves s.words (thread_flags s user host) (connected s session user host).kept.now (seat_at s session user host))) tt
moved_for setting s session (changes.Truncate what) well cells kinds =
    subst (λ z. Each IsCellMove (moves_asked (truncation_asks z s.kept.now.places what))) (sym kinds)
    (asked_moves (truncation_asks (kinds_of setting) s.kept.now.places what)
    (each_truncation IsCellAsk (kinds_of setting) s.kept.now.places what well (λ kind. low_each (IsAsking IsCellAsk) cell_ask (kind_cells (kinds_of setting) kind) ((kinds_fit setting).small kind)) (kinds_fit setting).digests_few (λ at low. ((omega arith, omega (arith, low)), tt))))
moved_for setting s session (changes.Setup what) well cells kinds = tt
moved_for setting s session changes.Quit well cells kinds = on (seat_in s session) (seat_in_in s.kept.now session well) where
  on : (o : Option Seated) → IfSome o IsInRange → Each IsCellMove (moves_asked (quit_work s.words s.cells (has_quit s session).kept.now o).moves)
  on None r = tt
  on (Some seat) r =
      asked_moves (asks_of s.cells (of.Thread (up_of seat)))
      (slot_asks (up_of seat) s.cells (record { place = r.slot; account = r.places.account; user = r.places.user; host = r.places.host }) (subst (Each (λ cell. cell < 64)) (sym cells) (low_cells setting)))

-- what was done
abbrev pub IsOfCells : Did → Type 0
IsOfCells (Took row) = IsBetween row
IsOfCells (Gave row from) = IsBetween row
IsOfCells _ = Unit {0}

given_cells : (from : ℕ) (to : List ℕ) → AreBetween to → Each IsOfCells (given_to from to)
given_cells from [] h = tt
given_cells from (row ∷ to) h = (h.0, given_cells from to h.1)

moved_cells : (counted : ℕ → Bool) (moves : List Move) → Each IsCellMove moves → Each IsOfCells (moved_by counted moves)
moved_cells counted [] h = tt
moved_cells counted (m ∷ ms) h = (h.0.0, each_join IsOfCells (cond (counted m.from) (given_to m.from m.to) []) (moved_by counted ms) (given (counted m.from)) (moved_cells counted ms h.1)) where
  given : (b : Bool) → Each IsOfCells (cond b (given_to m.from m.to) [])
  given true = given_cells m.from m.to h.0.1
  given false = tt

signed_cells : (signs : List Sign) → Each IsOfCells (signed_by signs)
signed_cells [] = tt
signed_cells (Frees row ∷ signs) = (tt, signed_cells signs)
signed_cells (Tags row ∷ signs) = (tt, signed_cells signs)

flagged_cells : (flags : List Flagging) → Each IsOfCells (flagged_by flags)
flagged_cells [] = tt
flagged_cells (one ∷ others) = (tt, flagged_cells others)

module _ (setting : Setting) (change : Label → Change) (labels : List Label) (number : ℕ) where
  abbrev before : State
  before = state_of setting change (take (number - 1) labels)

  moves : Each IsCellMove (asked_at setting change labels number).moves
  moves = on (label_at labels number) where
    on : (o : Option Label) → Each IsCellMove (moves_asked (work_of_label change before o).moves)
    on None = tt
    on (Some label) =
        moved_for setting before label.session (change label) (fold_well setting change (take (number - 1) labels))
        (fold_cells setting change (take (number - 1) labels)) (fold_kinds setting change (take (number - 1) labels))

  pub asked_cells : (counted : ℕ → Bool) → Each IsOfCells (asked_of counted (asked_at setting change labels number))
  asked_cells counted =
      each_join IsOfCells (moved_by counted (asked_at setting change labels number).moves) _ (moved_cells counted (asked_at setting change labels number).moves moves)
      (each_join IsOfCells (signed_by (asked_at setting change labels number).signs) _ (signed_cells (asked_at setting change labels number).signs) (flagged_cells (asked_at setting change labels number).sets))
