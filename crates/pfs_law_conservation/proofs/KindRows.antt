-- The rows of a kind go by a numbering, and all of them are listed.
use Rattle.std.proofs.Common.{◌⊎◌, inl, inr, ◌≡◌, ℕ, zero, suc, ◌+◌, ◌<◌, ◌≤◌, ◌==◌, ◌&&◌, Bool, true, false, cond, nat_lt, nat_le, List, [], ◌∷◌, ◌++◌, count_by, length, Option, Some, refl, sym, ap, ◌∙◌, subst, arith}
use Rattle.std.specs.Prelude.{slice_get}
use Rattle.std.proofs.lemmas.List.Sums.{sum_by-cons}
use Rattle.std.proofs.lemmas.Option.{slice_get_past}
use Rattle.std.proofs.lemmas.Bool.{eqb-true}
use Rattle.pfs_classes.specs.declared.classes.Class.{Class}
use Rattle.pfs_classes.specs.declared.setting.Setting.{Setting}
use Rattle.pfs_conservation.specs.ActionMoves.{RowsAfter, Ranked}
use Rattle.pfs_conservation.specs.KindFacts.{IsListing}
use Rattle.pfs_conservation.specs.PlaceFolds.{Place, Thread, Account, User, Host, Global, Elsewhere}
use Rattle.pfs_conservation.specs.CellHolders.{Seat, IsIn, Between, IsNumbering, place_level}
use Rattle.pfs_readsets.specs.TablePlaces.{is_class_of}
use Rattle.pfs_rows.specs.Rows.{IsPlace, row_number}
use Rattle.pfs_rows.specs.declared.place.Place.{Place as Spot}
use Rattle.pfs_rows.specs.declared.place.Place.TheVariants.{ThreadCell, AccountCell, UserCell, HostCell, GlobalCell}
use Rattle.pfs_rows.specs.declared.table.TableKind.{TableKind}
use Rattle.pfs_rows.specs.declared.table.TableKind.TheVariants.{Waits, Stages, Statements, Transactions}
use Rattle.pfs_law_plain.proofs.ClassCount.{few_classes}
use Rattle.pfs_law_conservation.specs.KindRows.{cells_of, board, row_in, elsewhere, seat_if, seat_by, seat_in, is_somewhere, is_kind_row, kind_rows_from, kind_rows}
use Rattle.pfs_law_conservation.proofs.RowRanges.{AreNone}
use Rattle.pfs_law_conservation.proofs.SlotMoves.{AreBack, AreFound, seat_at}

-- the cells of a kind are below 64
pub low_cell : (setting : Setting) (kind : TableKind) (cell : ℕ) → cells_of setting kind cell ≡ true → cell < 64
low_cell setting kind cell = by kind where
  classes : List Class
  classes = setting.classes.classes

  under : (a b : ℕ) → nat_lt a b ≡ true → a < b
  under a b q = grind arith

  over : (a b : ℕ) → nat_lt a b ≡ false → b ≤ a
  over a b q = grind arith

  of_class : (kind : TableKind) → is_class_of kind (slice_get setting.classes.classes cell) ≡ true → cell < 64
  of_class kind h = at (nat_lt cell (length setting.classes.classes)) refl where
    few : length setting.classes.classes ≤ 62
    few = few_classes setting

    at : (b : Bool) → nat_lt cell (length setting.classes.classes) ≡ b → cell < 64
    at true q = let l : cell < length setting.classes.classes = under cell (length setting.classes.classes) q in omega (arith, l, few)
    at false q = let e : is_class_of kind (slice_get setting.classes.classes cell) ≡ false = ap (is_class_of kind) (slice_get_past setting.classes.classes cell (over cell (length setting.classes.classes) q)) in absurd (let z : true ≡ false = sym h ∙ e in cc)

  last : (c : ℕ) → nat_le 62 c && nat_lt c 64 ≡ true → c < 64
  last c h = grind arith

  by : (kind : TableKind) → cells_of setting kind cell ≡ true → cell < 64
  by Waits h = of_class Waits h
  by Stages h = of_class Stages h
  by Statements h = of_class Statements h
  by Transactions h = last cell h

bit_no : (b : Bool) → b ≡ false → cond {A = ℕ} b 1 0 ≡ 0
bit_no true q = absurd (cc)
bit_no false q = refl

module _ (back : AreBack) (found : AreFound) (none : AreNone) (is_cell : ℕ → Bool) (low : (cell : ℕ) → is_cell cell ≡ true → cell < 64) where
  seat_is : (cell : ℕ) (place : Place) → is_cell cell ≡ true → seat_if is_cell cell place ≡ record { cell = cell; place = place }
  seat_is cell place c = ap (λ b. cond {A = Seat} b (record { cell = cell; place = place }) elsewhere) c

  pub seats : (cell : ℕ) (place : Place) → is_cell cell ≡ true → IsIn place → seat_in is_cell (row_in cell place) ≡ record { cell = cell; place = place }
  seats cell (Thread t) c i = seat_at back is_cell (ThreadCell t cell) (i, low cell c) ∙ seat_is cell (Thread t) c
  seats cell (Account t) c i = seat_at back is_cell (AccountCell t cell) (i, low cell c) ∙ seat_is cell (Account t) c
  seats cell (User t) c i = seat_at back is_cell (UserCell t cell) (i, low cell c) ∙ seat_is cell (User t) c
  seats cell (Host t) c i = seat_at back is_cell (HostCell t cell) (i, low cell c) ∙ seat_is cell (Host t) c
  seats cell Global c i = seat_at back is_cell (GlobalCell cell) (low cell c) ∙ seat_is cell Global c
  seats cell Elsewhere c i = absurd i

  -- a row is that of a cell, or of none
  data Range (row : ℕ) : Type 0 where
    Known : (cell : ℕ) (place : Place) → is_cell cell ≡ true → IsIn place → row_in cell place ≡ row → seat_in is_cell row ≡ record { cell = cell; place = place } → Range row
    Past : (seat_in is_cell row).place ≡ Elsewhere → Range row

  range_if : (row cell : ℕ) (place : Place) → seat_in is_cell row ≡ seat_if is_cell cell place → IsIn place → row_in cell place ≡ row → Range row
  range_if row cell place s i r = at (is_cell cell) refl where
    at : (b : Bool) → is_cell cell ≡ b → Range row
    at true c = Known cell place c i r (s ∙ seat_is cell place c)
    at false c = Past (ap (λ (z : Seat). z.place) (s ∙ ap (λ b. cond {A = Seat} b (record { cell = cell; place = place }) elsewhere) c))

  range : (row : ℕ) → Range row
  range row = at (nat_lt row 14242) refl where
    under : (a b : ℕ) → nat_lt a b ≡ true → a < b
    under a b q = grind arith

    over : (a b : ℕ) → nat_lt a b ≡ false → b ≤ a
    over a b q = grind arith

    by : (spot : Spot) → IsPlace spot → row_number spot ≡ row → seat_in is_cell row ≡ seat_by is_cell (Some spot) → Range row
    by (ThreadCell t cell) is e s = range_if row cell (Thread t) s is.0 e
    by (AccountCell t cell) is e s = range_if row cell (Account t) s is.0 e
    by (UserCell t cell) is e s = range_if row cell (User t) s is.0 e
    by (HostCell t cell) is e s = range_if row cell (Host t) s is.0 e
    by (GlobalCell cell) is e s = range_if row cell Global s tt e
    by _ is e s = Past (ap (λ (z : Seat). z.place) s)

    on : (spot : Spot) × IsPlace spot × (row_number spot ≡ row) → Range row
    on (spot, is, e) = by spot is e (ap (seat_in is_cell) (sym e) ∙ seat_at back is_cell spot is)

    at : (b : Bool) → nat_lt row 14242 ≡ b → Range row
    at true q = on (found row (under row 14242 q))
    at false q = Past (ap (λ (z : Option Spot). (seat_by is_cell z).place) (none row (over row 14242 q)))

  pub board_good : IsNumbering (board is_cell)
  board_good = record {
    seats = seats;
    rows = λ row i. row_is row (range row) i;
    between = bounds;
    users = omega arith;
    hosts = omega arith;
    globals = omega arith;
  } where
    row_is : (row : ℕ) → Range row → IsIn (seat_in is_cell row).place → row_in (seat_in is_cell row).cell (seat_in is_cell row).place ≡ row
    row_is row (Known cell p c i r s) w = ap (λ (z : Seat). row_in z.cell z.place) s ∙ r
    row_is row (Past s) w = absurd (subst IsIn s w)

    bounds : (cell : ℕ) (p : Place) → is_cell cell ≡ true → IsIn p → Between (board is_cell) p (row_in cell p)
    bounds cell (Thread t) c i = let l : cell < 64 = low cell c in omega arith
    bounds cell (Account t) c i = let l : cell < 64 = low cell c in (omega arith, omega arith)
    bounds cell (User t) c i = let l : cell < 64 = low cell c in (omega arith, omega arith)
    bounds cell (Host t) c i = let l : cell < 64 = low cell c in (omega arith, omega arith)
    bounds cell Global c i = omega arith
    bounds cell Elsewhere c i = i

  -- the rows of the kind
  abbrev Here : ℕ → Type 0
  Here row = (cell : ℕ) × (p : Place) × (is_cell cell ≡ true) × IsIn p × (row_in cell p ≡ row) × (seat_in is_cell row ≡ record { cell = cell; place = p })

  here_in : (row : ℕ) → is_kind_row is_cell row ≡ true → Here row
  here_in row h = at (range row) where
    at : Range row → Here row
    at (Known cell p c i r s) = (cell, p, c, i, r, s)
    at (Past s) = absurd (let z : true ≡ false = sym h ∙ ap is_somewhere s in cc)

  in_here : (p : Place) → IsIn p → is_somewhere p ≡ true
  in_here (Thread t) i = refl
  in_here (Account t) i = refl
  in_here (User t) i = refl
  in_here (Host t) i = refl
  in_here Global i = refl
  in_here Elsewhere i = absurd i

  level_order : (c d : ℕ) (p q : Place) (a b : ℕ) → c < 64 → d < 64 → IsIn p → IsIn q → row_in c p ≡ a → row_in d q ≡ b → a ≤ b → place_level p ≤ place_level q
  level_order c d Elsewhere q a b l m i j e f h = absurd i
  level_order c d (Thread t) Elsewhere a b l m i j e f h = absurd j
  level_order c d (Account t) Elsewhere a b l m i j e f h = absurd j
  level_order c d (User t) Elsewhere a b l m i j e f h = absurd j
  level_order c d (Host t) Elsewhere a b l m i j e f h = absurd j
  level_order c d Global Elsewhere a b l m i j e f h = absurd j
  level_order c d p q a b l m i j e f h = omega arith

  levels_up : (a b : ℕ) → a ≤ b → is_kind_row is_cell a ≡ true → is_kind_row is_cell b ≡ true → place_level (seat_in is_cell a).place ≤ place_level (seat_in is_cell b).place
  levels_up a b h x y =
      let u : Here a = here_in a x in
      let w : Here b = here_in b y in
      subst (λ (z : Seat). place_level z.place ≤ place_level (seat_in is_cell b).place) (sym u.5)
      (subst (λ (z : Seat). place_level u.1 ≤ place_level z.place) (sym w.5) (level_order u.0 w.0 u.1 w.1 a b (low u.0 u.2) (low w.0 w.2) u.3 w.3 u.4 w.4 h))

  abbrev Up : (ℕ → ℕ) → Type 0
  Up level = (a b : ℕ) → a ≤ b → is_kind_row is_cell a ≡ true → is_kind_row is_cell b ≡ true → level a ≤ level b

  rows_after : (level : ℕ → ℕ) → Up level → (first row more : ℕ) → first < row → is_kind_row is_cell first ≡ true → RowsAfter level first (kind_rows_from is_cell row more)
  rows_after level up first row zero l h = tt
  rows_after level up first row (suc more) l h = at (is_kind_row is_cell row) refl (rows_after level up first (suc row) more (omega arith) h) where
    at : (b : Bool) → is_kind_row is_cell row ≡ b → RowsAfter level first (kind_rows_from is_cell (suc row) more) → RowsAfter level first (cond b (row ∷ []) [] ++ kind_rows_from is_cell (suc row) more)
    at true q ih = (up first row (omega arith) h q, (λ e. (let e : first ≡ row = e in omega arith)), ih)
    at false q ih = ih

  ranked : (level : ℕ → ℕ) → Up level → (row more : ℕ) → Ranked level (kind_rows_from is_cell row more)
  ranked level up row zero = tt
  ranked level up row (suc more) = at (is_kind_row is_cell row) refl (ranked level up (suc row) more) where
    at : (b : Bool) → is_kind_row is_cell row ≡ b → Ranked level (kind_rows_from is_cell (suc row) more) → Ranked level (cond b (row ∷ []) [] ++ kind_rows_from is_cell (suc row) more)
    at true q ih = (rows_after level up row (suc row) more (omega arith) q, ih)
    at false q ih = ih

  count_cons : (r row : ℕ) (rows : List ℕ) → count_by (λ x. x == r) (row ∷ rows) ≡ cond {A = ℕ} (row == r) 1 0 + count_by (λ x. x == r) rows
  count_cons r row rows = sum_by-cons (λ x. cond (x == r) 1 0) row rows

  none_before : (row more r : ℕ) → r < row → count_by (λ x. x == r) (kind_rows_from is_cell row more) ≡ 0
  none_before row zero r l = refl
  none_before row (suc more) r l = at (is_kind_row is_cell row) (none_before (suc row) more r (omega arith)) where
    apart : (a b : ℕ) → b < a → (a == b) ≡ false
    apart a b l = grind (arith, l)

    at : (b : Bool) → count_by (λ x. x == r) (kind_rows_from is_cell (suc row) more) ≡ 0 → count_by (λ x. x == r) (cond b (row ∷ []) [] ++ kind_rows_from is_cell (suc row) more) ≡ 0
    at true ih = omega (arith, ih, count_cons r row (kind_rows_from is_cell (suc row) more), bit_no (row == r) (apart row r l))
    at false ih = ih

  one_in : (row more r : ℕ) → row ≤ r → r < row + more → is_kind_row is_cell r ≡ true → count_by (λ x. x == r) (kind_rows_from is_cell row more) ≡ 1
  one_in row zero r l h y = absurd (omega arith)
  one_in row (suc more) r l h y = by (row == r) refl (λ up. one_in (suc row) more r up (omega arith) y) where
    less : (a b : ℕ) → a ≤ b → (a == b) ≡ false → suc a ≤ b
    less a b l q = grind (arith, l, q)

    bit_yes : (b : Bool) → b ≡ true → cond {A = ℕ} b 1 0 ≡ 1
    bit_yes true q = refl
    bit_yes false q = absurd (cc)

    at : (b : Bool) → (row == r) ≡ false → count_by (λ x. x == r) (kind_rows_from is_cell (suc row) more) ≡ 1 → count_by (λ x. x == r) (cond b (row ∷ []) [] ++ kind_rows_from is_cell (suc row) more) ≡ 1
    at true q ih = omega (arith, ih, count_cons r row (kind_rows_from is_cell (suc row) more), bit_no (row == r) q)
    at false q ih = ih

    by : (b : Bool) → (row == r) ≡ b → (suc row ≤ r → count_by (λ x. x == r) (kind_rows_from is_cell (suc row) more) ≡ 1) → count_by (λ x. x == r) (cond (is_kind_row is_cell row) (row ∷ []) [] ++ kind_rows_from is_cell (suc row) more) ≡ 1
    by false q ih = at (is_kind_row is_cell row) q (ih (less row r l q))
    by true q ih =
        let e : row ≡ r = eqb-true row r q in
        ap (λ b. count_by (λ x. x == r) (cond b (row ∷ []) [] ++ kind_rows_from is_cell (suc row) more)) (ap (λ k. is_kind_row is_cell k) e ∙ y)
        ∙ omega (arith, count_cons r row (kind_rows_from is_cell (suc row) more), bit_yes (row == r) q, none_before (suc row) more r (omega arith))

  row_between : (cell : ℕ) (p : Place) (row : ℕ) → cell < 64 → IsIn p → row_in cell p ≡ row → (129 ≤ row) × (row < 129 + 8256)
  row_between cell (Thread t) row l i e = (omega arith, omega arith)
  row_between cell (Account t) row l i e = (omega arith, omega arith)
  row_between cell (User t) row l i e = (omega arith, omega arith)
  row_between cell (Host t) row l i e = (omega arith, omega arith)
  row_between cell Global row l i e = (omega arith, omega arith)
  row_between cell Elsewhere row l i e = absurd i

  pub board_listing : IsListing (board is_cell) (kind_rows is_cell)
  unfolding kind_rows
  board_listing = record {
    once = λ row i. once_is row (in_here (seat_in is_cell row).place i);
    ranked = ranked (λ row. place_level (seat_in is_cell row).place) levels_up 129 8256;
    rises = ranked (λ row. row) (λ a b l x y. l) 129 8256;
    known = λ row i. cell_known row (here_in row (in_here (seat_in is_cell row).place i));
    places = λ row. where_is row (range row);
  } where
    once_is : (row : ℕ) → is_kind_row is_cell row ≡ true → count_by (λ r. r == row) (kind_rows_from is_cell 129 8256) ≡ 1
    once_is row y =
        let u : Here row = here_in row y in
        let b : (129 ≤ row) × (row < 129 + 8256) = row_between u.0 u.1 row (low u.0 u.2) u.3 u.4 in
        one_in 129 8256 row b.0 b.1 y

    cell_known : (row : ℕ) → Here row → is_cell (seat_in is_cell row).cell ≡ true
    cell_known row u = ap (λ (z : Seat). is_cell z.cell) u.5 ∙ u.2

    where_is : (row : ℕ) → Range row → IsIn (seat_in is_cell row).place ⊎ ((seat_in is_cell row).place ≡ Elsewhere)
    where_is row (Known cell p c i r s) = inl (subst (λ (z : Seat). IsIn z.place) (sym s) i)
    where_is row (Past s) = inr s

  -- a cell's row is one of the kind
  pub row_here : (cell : ℕ) (place : Place) → is_cell cell ≡ true → IsIn place → is_kind_row is_cell (row_in cell place) ≡ true
  row_here cell place c i = ap (λ (z : Seat). is_somewhere z.place) (seats cell place c i) ∙ in_here place i
