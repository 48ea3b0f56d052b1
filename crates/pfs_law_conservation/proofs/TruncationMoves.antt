-- A truncation asks, among the rows of a kind, just what the fold moves there.
use Rattle.std.proofs.Common.{◌≡◌, refl, ℕ, zero, suc, ◌+◌, ◌<◌, ◌≤◌, ◌==◌, ◌&&◌, Bool, true, false, cond, nat_le, nat_lt, List, [], ◌∷◌, ◌++◌, length, Option, Some, None, sym, ap, ◌∙◌, arith}
use Rattle.std.specs.Prelude.{slice_get}
use Rattle.std.proofs.lemmas.Option.{slice_get_past}
use Rattle.std.proofs.lemmas.Bool.{and_parts, eqb-true}
use Rattle.pfs_admin.proofs.KindCells.{kinds_fit}
use Rattle.pfs_admin.specs.OpeningState.{cells_of_kind, kinds_of}
use Rattle.pfs_admin.specs.AdministrationStates.{kind_cells}
use Rattle.pfs_admin.specs.Truncations.{reach_of, summary_asks, all_asks, digest_asks, truncation_asks, level_of, action_of}
use Rattle.pfs_law_session.specs.Demands.{moves_asked}
use Rattle.pfs_classes.specs.declared.classes.Class.{Class}
use Rattle.pfs_classes.specs.declared.setting.Setting.{Setting}
use Rattle.pfs_conservation.specs.ActionMoves.{moves_of}
use Rattle.pfs_conservation.specs.AdministrationFold.{Action, line_of, state_before}
use Rattle.pfs_conservation.specs.PlaceFolds.{State, Thread, Account, User, Host, Global, Line, Truncates, FreesAccounts, FreesUsers, FreesHosts, Others, line_takes}
use Rattle.pfs_conservation.specs.RowMoves.{Move}
use Rattle.pfs_conservation.specs.CellHolders.{holder_of, takes_by}
use Rattle.pfs_containers.specs.ContainerState.{AreWell}
use Rattle.pfs_levels.specs.Moves.{Ask}
use Rattle.pfs_model.specs.Chains.{Each}
use Rattle.pfs_readsets.specs.TablePlaces.{is_kind_cell, is_class_of, table_kind}
use Rattle.pfs_rows.specs.Rows.{row_number}
use Rattle.pfs_rows.specs.Tables.{kind_number}
use Rattle.pfs_rows.specs.declared.place.Place.{Place as Spot}
use Rattle.pfs_rows.specs.declared.place.Place.TheVariants.{DigestNull, Digest}
use Rattle.pfs_rows.specs.declared.table.SummaryTable.{SummaryTable}
use Rattle.pfs_rows.specs.declared.table.SummaryTable.TheVariants as tables
use Rattle.pfs_rows.specs.declared.table.TableKind.{TableKind}
use Rattle.pfs_rows.specs.declared.table.TableKind.TheVariants.{Waits, Stages, Statements, Transactions}
use Rattle.pfs_law_plain.proofs.ClassCount.{few_classes}
use Rattle.pfs_law_conservation.specs.KindRows.{board, cells_of, seat_by, seat_in as seat_of_row, is_somewhere, is_kind_row, kind_rows}
use Rattle.pfs_law_conservation.proofs.MoveLevels.{IsAsking, each_digests, each_summary, each_truncation, low_each, asking_alike, asking_other, other_cells}
use Rattle.pfs_law_conservation.proofs.PlaceMoves.{asked, asked_then, none_asked, Reaches, reach_same}
use Rattle.pfs_law_conservation.proofs.PrintedMoves.{moves_as, moves_on, AreAlike, AllAlike}
use Rattle.pfs_law_conservation.proofs.SlotMoves.{AreBack, none_of_all}
use Rattle.pfs_rows.specs.declared.truncations.Truncation.{Truncation}
use Rattle.pfs_rows.specs.declared.truncations.Truncation.TheVariants.{Events, Summary, DigestSummary, Accounts, Users, Hosts, SetupActors, SetupObjects}

-- no row of a digest is a cell's
digest_apart : AreBack → (is_cell : ℕ → Bool) (at : ℕ) → at ≤ 64 → is_kind_row is_cell (row_number DigestNull + at) ≡ false
digest_apart back is_cell zero l =
    let e : row_number DigestNull + zero ≡ row_number DigestNull = omega arith in
    ap (λ row. is_kind_row is_cell row) e ∙ ap (λ (o : Option Spot). is_somewhere (seat_by is_cell o).place) (back DigestNull tt)
digest_apart back is_cell (suc digest) l =
    let e : row_number DigestNull + suc digest ≡ row_number (Digest digest) = omega arith in
    let low : digest < 64 = omega (arith, l) in
    ap (λ row. is_kind_row is_cell row) e ∙ ap (λ (o : Option Spot). is_somewhere (seat_by is_cell o).place) (back (Digest digest) low)

-- no cell is of two kinds
class_apart : (o : Option Class) (other kind : TableKind) → (kind_number other == kind_number kind) ≡ false → is_class_of other o ≡ true → is_class_of kind o ≡ false
class_apart None other kind d q = refl
class_apart (Some class) other kind d q = ap (λ n. n == kind_number kind) (eqb-true (kind_number (table_kind class.kind)) (kind_number other) q) ∙ d

high : (classes : List Class) (kind : TableKind) (cell : ℕ) → length classes ≤ 62 → nat_le 62 cell && nat_lt cell 64 ≡ true → is_class_of kind (slice_get classes cell) ≡ false
high classes kind cell few q = ap (is_class_of kind) (slice_get_past classes cell (let l : 62 ≤ cell = from cell (and_parts (nat_le 62 cell) (nat_lt cell 64) q).0 in omega (arith, few, l))) where
  from : (c : ℕ) → nat_le 62 c ≡ true → 62 ≤ c
  from c e = grind arith

low : (classes : List Class) (kind : TableKind) (cell : ℕ) → length classes ≤ 62 → is_class_of kind (slice_get classes cell) ≡ true → nat_le 62 cell && nat_lt cell 64 ≡ false
low classes kind cell few q = at (nat_le 62 cell && nat_lt cell 64) refl where
  at : (b : Bool) → nat_le 62 cell && nat_lt cell 64 ≡ b → b ≡ false
  at true e = absurd (let z : true ≡ false = sym q ∙ high classes kind cell few e in cc)
  at false e = refl

kinds_apart : (classes : List Class) → length classes ≤ 62 → (other kind : TableKind) → (kind_number other == kind_number kind) ≡ false → (cell : ℕ) → is_kind_cell classes other cell ≡ true → is_kind_cell classes kind cell ≡ false
kinds_apart classes few Waits Waits d cell q = class_apart (slice_get classes cell) Waits Waits d q
kinds_apart classes few Waits Stages d cell q = class_apart (slice_get classes cell) Waits Stages d q
kinds_apart classes few Waits Statements d cell q = class_apart (slice_get classes cell) Waits Statements d q
kinds_apart classes few Waits Transactions d cell q = low classes Waits cell few q
kinds_apart classes few Stages Waits d cell q = class_apart (slice_get classes cell) Stages Waits d q
kinds_apart classes few Stages Stages d cell q = class_apart (slice_get classes cell) Stages Stages d q
kinds_apart classes few Stages Statements d cell q = class_apart (slice_get classes cell) Stages Statements d q
kinds_apart classes few Stages Transactions d cell q = low classes Stages cell few q
kinds_apart classes few Statements Waits d cell q = class_apart (slice_get classes cell) Statements Waits d q
kinds_apart classes few Statements Stages d cell q = class_apart (slice_get classes cell) Statements Stages d q
kinds_apart classes few Statements Statements d cell q = class_apart (slice_get classes cell) Statements Statements d q
kinds_apart classes few Statements Transactions d cell q = low classes Statements cell few q
kinds_apart classes few Transactions Waits d cell q = high classes Waits cell few q
kinds_apart classes few Transactions Stages d cell q = high classes Stages cell few q
kinds_apart classes few Transactions Statements d cell q = high classes Statements cell few q
kinds_apart classes few Transactions Transactions d cell q = absurd (let z : true ≡ false = d in cc)

kinds_equal : (other kind : TableKind) → (kind_number other == kind_number kind) ≡ true → other ≡ kind
kinds_equal Waits Waits q = refl
kinds_equal Waits Stages q = absurd (let z : false ≡ true = q in cc)
kinds_equal Waits Statements q = absurd (let z : false ≡ true = q in cc)
kinds_equal Waits Transactions q = absurd (let z : false ≡ true = q in cc)
kinds_equal Stages Waits q = absurd (let z : false ≡ true = q in cc)
kinds_equal Stages Stages q = refl
kinds_equal Stages Statements q = absurd (let z : false ≡ true = q in cc)
kinds_equal Stages Transactions q = absurd (let z : false ≡ true = q in cc)
kinds_equal Statements Waits q = absurd (let z : false ≡ true = q in cc)
kinds_equal Statements Stages q = absurd (let z : false ≡ true = q in cc)
kinds_equal Statements Statements q = refl
kinds_equal Statements Transactions q = absurd (let z : false ≡ true = q in cc)
kinds_equal Transactions Waits q = absurd (let z : false ≡ true = q in cc)
kinds_equal Transactions Stages q = absurd (let z : false ≡ true = q in cc)
kinds_equal Transactions Statements q = absurd (let z : false ≡ true = q in cc)
kinds_equal Transactions Transactions q = refl

-- what a line takes, level by level
record Takes (l : Line) (table : SummaryTable) : Type 0 where
  thread : (place : ℕ) → line_takes l (Thread place) ≡ true
  account : (place : ℕ) → line_takes l (Account place) ≡ (reach_of table).accounts
  user : (place : ℕ) → line_takes l (User place) ≡ (reach_of table).users
  host : (place : ℕ) → line_takes l (Host place) ≡ (reach_of table).hosts
  global : line_takes l Global ≡ (reach_of table).global

level_takes_are : (table : SummaryTable) → Takes (Truncates (level_of table)) table
level_takes_are tables.ByThread = record { thread = λ p. refl; account = λ p. refl; user = λ p. refl; host = λ p. refl; global = refl }
level_takes_are tables.ByAccount = record { thread = λ p. refl; account = λ p. refl; user = λ p. refl; host = λ p. refl; global = refl }
level_takes_are tables.ByUser = record { thread = λ p. refl; account = λ p. refl; user = λ p. refl; host = λ p. refl; global = refl }
level_takes_are tables.ByHost = record { thread = λ p. refl; account = λ p. refl; user = λ p. refl; host = λ p. refl; global = refl }
level_takes_are tables.Global = record { thread = λ p. refl; account = λ p. refl; user = λ p. refl; host = λ p. refl; global = refl }

no_more : (xs : List Move) → xs ++ [] ≡ xs
no_more [] = refl
no_more (x ∷ xs) = ap (λ (zs : List Move). x ∷ zs) (no_more xs)

-- of four kinds one is this
one_of : (kind : TableKind) (xs : List Move)
    → cond (kind_number Waits == kind_number kind) xs [] ++ (cond (kind_number Stages == kind_number kind) xs [] ++ (cond (kind_number Statements == kind_number kind) xs [] ++ cond (kind_number Transactions == kind_number kind) xs [])) ≡ xs
one_of Waits xs = no_more xs
one_of Stages xs = no_more xs
one_of Statements xs = no_more xs
one_of Transactions xs = refl

module _ (back : AreBack) (setting : Setting) (kind : TableKind) (opening : State) (actions : ℕ → Action) (action : ℕ) (well : AreWell (state_before opening actions action)) where
  abbrev is_cell : ℕ → Bool
  is_cell = cells_of setting kind

  abbrev before : State
  before = state_before opening actions action

  abbrev line : Line
  line = line_of (kind_number kind) before (actions action)

  abbrev all_moves : List Move
  all_moves = moves_of (holder_of (board is_cell) opening actions) (takes_by (board is_cell) opening actions (kind_number kind)) action (kind_rows is_cell)

  abbrev IsReach : SummaryTable → Type 0
  IsReach table = Reaches back is_cell opening actions (kind_number kind) action table

  by_line : (l : Line) (table : SummaryTable) → line ≡ l → Takes l table → IsReach table
  by_line l table e t = record {
    thread = λ p. ap (λ z. line_takes z (Thread p)) e ∙ t.thread p;
    account = λ p. ap (λ z. line_takes z (Account p)) e ∙ t.account p;
    user = λ p. ap (λ z. line_takes z (User p)) e ∙ t.user p;
    host = λ p. ap (λ z. line_takes z (Host p)) e ∙ t.host p;
    global = ap (λ z. line_takes z Global) e ∙ t.global;
  }

  idle : line ≡ Others → all_moves ≡ []
  idle e = none_of_all is_cell (holder_of (board is_cell) opening actions) (takes_by (board is_cell) opening actions (kind_number kind)) action (λ r. ap (λ l. line_takes l (seat_of_row is_cell r).place) e)

  own : (table : SummaryTable) → IsReach table → asked is_cell action (summary_asks before table (cells_of_kind setting.classes kind)) ≡ all_moves
  unfolding cells_of_kind
  own table reaches = reach_same back is_cell opening actions (kind_number kind) action table reaches

  others : (other : TableKind) → (kind_number other == kind_number kind) ≡ false → Each (IsAsking (λ (a : Ask). is_kind_row is_cell a.from ≡ false)) (cells_of_kind setting.classes other)
  unfolding cells_of_kind
  others other d =
      other_cells (is_kind_cell setting.classes.classes other) is_cell (kinds_apart setting.classes.classes (few_classes setting) other kind d) (IsAsking (λ (a : Ask). is_kind_row is_cell a.from ≡ false))
      (λ cell c f. asking_other back is_cell cell c f) 0 64 (omega arith)

  -- of the cells of each kind
  part : (table : SummaryTable) (other : TableKind) → ((kind_number other == kind_number kind) ≡ true → IsReach table)
      → asked is_cell action (summary_asks before table (cells_of_kind setting.classes other)) ≡ cond (kind_number other == kind_number kind) all_moves []
  part table other reaches = at (kind_number other == kind_number kind) refl where
    at : (b : Bool) → (kind_number other == kind_number kind) ≡ b → asked is_cell action (summary_asks before table (cells_of_kind setting.classes other)) ≡ cond b all_moves []
    at true q = ap (λ k. asked is_cell action (summary_asks before table (cells_of_kind setting.classes k))) (kinds_equal other kind q) ∙ own table (reaches q)
    at false q =
        none_asked is_cell action (summary_asks before table (cells_of_kind setting.classes other))
        (each_summary (λ (a : Ask). is_kind_row is_cell a.from ≡ false) before table (cells_of_kind setting.classes other) well (others other q))

  -- of all kinds
  whole : (table : SummaryTable) → IsReach table → asked is_cell action (all_asks (kinds_of setting) before table) ≡ all_moves
  unfolding kinds_of
  whole table reaches =
      asked_then is_cell action (of Waits) (of Stages ++ (of Statements ++ of Transactions))
      ∙ (ap (λ (z : List Move). asked is_cell action (of Waits) ++ z)
      (asked_then is_cell action (of Stages) (of Statements ++ of Transactions) ∙ ap (λ (z : List Move). asked is_cell action (of Stages) ++ z) (asked_then is_cell action (of Statements) (of Transactions)))
      ∙ (ap (λ z. z ++ (asked is_cell action (of Stages) ++ (asked is_cell action (of Statements) ++ asked is_cell action (of Transactions)))) (each Waits)
      ∙ (ap (λ z. got Waits ++ (z ++ (asked is_cell action (of Statements) ++ asked is_cell action (of Transactions)))) (each Stages)
      ∙ (ap (λ z. got Waits ++ (got Stages ++ (z ++ asked is_cell action (of Transactions)))) (each Statements)
      ∙ (ap (λ z. got Waits ++ (got Stages ++ (got Statements ++ z))) (each Transactions)
      ∙ one_of kind all_moves))))) where
        of : TableKind → List Ask
        of other = summary_asks before table (cells_of_kind setting.classes other)

        got : TableKind → List Move
        got other = cond (kind_number other == kind_number kind) all_moves []

        each : (other : TableKind) → asked is_cell action (of other) ≡ got other
        each other = part table other (λ q. reaches)

  kind_is : (other : TableKind) → kind_cells (kinds_of setting) other ≡ cells_of_kind setting.classes other
  unfolding kinds_of
  kind_is Waits = refl
  kind_is Stages = refl
  kind_is Statements = refl
  kind_is Transactions = refl

  summary_same : (other : TableKind) (table : SummaryTable) → actions action ≡ action_of (Summary other table)
      → asked is_cell action (summary_asks before table (cells_of_kind setting.classes other)) ≡ all_moves
  summary_same other table e = at (kind_number other == kind_number kind) refl (part table other reaches) where
    here : line ≡ cond (kind_number other == kind_number kind) (Truncates (level_of table)) Others
    here = ap (λ a. line_of (kind_number kind) before a) e

    truncates : (b : Bool) → (kind_number other == kind_number kind) ≡ b → line ≡ cond b (Truncates (level_of table)) Others
    truncates b q = here ∙ ap (λ z. cond z (Truncates (level_of table)) Others) q

    reaches : (kind_number other == kind_number kind) ≡ true → IsReach table
    reaches q = by_line (Truncates (level_of table)) table (truncates true q) (level_takes_are table)

    at : (b : Bool) → (kind_number other == kind_number kind) ≡ b → asked is_cell action (summary_asks before table (cells_of_kind setting.classes other)) ≡ cond (kind_number other == kind_number kind) all_moves []
        → asked is_cell action (summary_asks before table (cells_of_kind setting.classes other)) ≡ all_moves
    at true q p = p ∙ ap (λ z. cond z all_moves []) q
    at false q p = p ∙ (ap (λ z. cond z all_moves []) q ∙ sym (idle (truncates false q)))

  pub truncation_same : (what : Truncation) → actions action ≡ action_of what
      → moves_on (is_kind_row (cells_of setting kind)) (moves_as action (moves_asked (truncation_asks (kinds_of setting) (state_before opening actions action) what)))
      ≡ moves_of (holder_of (board (cells_of setting kind)) opening actions) (takes_by (board (cells_of setting kind)) opening actions (kind_number kind)) action (kind_rows (cells_of setting kind))
  truncation_same (Summary other table) e = ap (λ z. asked is_cell action (summary_asks before table z)) (kind_is other) ∙ summary_same other table e
  truncation_same (Events other table) e = sym (idle (ap (λ a. line_of (kind_number kind) before a) e))
  truncation_same Accounts e =
      whole tables.ByAccount (by_line FreesAccounts tables.ByAccount (ap (λ a. line_of (kind_number kind) before a) e)
      (record { thread = λ p. refl; account = λ p. refl; user = λ p. refl; host = λ p. refl; global = refl }))
  truncation_same Users e =
      whole tables.ByUser (by_line FreesUsers tables.ByUser (ap (λ a. line_of (kind_number kind) before a) e)
      (record { thread = λ p. refl; account = λ p. refl; user = λ p. refl; host = λ p. refl; global = refl }))
  truncation_same Hosts e =
      whole tables.ByHost (by_line FreesHosts tables.ByHost (ap (λ a. line_of (kind_number kind) before a) e)
      (record { thread = λ p. refl; account = λ p. refl; user = λ p. refl; host = λ p. refl; global = refl }))
  truncation_same DigestSummary e =
      none_asked is_cell action (digest_asks (kinds_of setting).digests)
      (each_digests (λ (a : Ask). is_kind_row is_cell a.from ≡ false) (λ at l. digest_apart back is_cell at l) (kinds_of setting).digests (kinds_fit setting).digests_few)
      ∙ sym (idle (ap (λ a. line_of (kind_number kind) before a) e))
  truncation_same SetupActors e = sym (idle (ap (λ a. line_of (kind_number kind) before a) e))
  truncation_same SetupObjects e = sym (idle (ap (λ a. line_of (kind_number kind) before a) e))

-- and each row that it gives to is of the kind of the row that it takes
module _ (back : AreBack) (setting : Setting) (kind : TableKind) (action : ℕ) (places : State) (well : AreWell places) where
  abbrev test : ℕ → Bool
  test = is_kind_row (cells_of setting kind)

  moves_alike : (asks : List Ask) → Each (λ (a : Ask). AreAlike test a.from a.to) asks → AllAlike test (moves_as action (moves_asked asks))
  moves_alike [] h = tt
  moves_alike (a ∷ asks) h = (h.0, moves_alike asks h.1)

  pub truncation_alike : (what : Truncation) → AllAlike (is_kind_row (cells_of setting kind)) (moves_as action (moves_asked (truncation_asks (kinds_of setting) places what)))
  truncation_alike what =
      moves_alike (truncation_asks (kinds_of setting) places what)
      (each_truncation (λ (a : Ask). AreAlike test a.from a.to) (kinds_of setting) places what well
      (λ other. low_each (IsAsking (λ (a : Ask). AreAlike test a.from a.to)) (λ cell c. asking_alike back (cells_of setting kind) cell c) (kind_cells (kinds_of setting) other) ((kinds_fit setting).small other)) (kinds_fit setting).digests_few (λ at low. tt))
