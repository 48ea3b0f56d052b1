-- Which rows of a kind an action moves: at a quit those of its slot, ascending by cell; else none.
use Rattle.std.proofs.Common.{◌≡◌, refl, ℕ, zero, suc, ◌+◌, ◌-◌, ◌*◌, ◌<◌, ◌≤◌, ◌==◌, Bool, true, false, cond, List, [], ◌∷◌, ◌++◌, Option, Some, sym, ap, ◌∙◌, arith}
use Rattle.pfs_conservation.specs.ActionMoves.{moved_by, moves_of}
use Rattle.pfs_conservation.specs.PlaceFolds.{Place, Thread, Account, User, Host, Global, Elsewhere}
use Rattle.pfs_conservation.specs.RowMoves.{Move}
use Rattle.pfs_conservation.specs.CellHolders.{Seat}
use Rattle.pfs_conservation.specs.Tenures.{Owner}
use Rattle.pfs_rows.specs.Rows.{IsPlace, row_number, place_at}
use Rattle.pfs_rows.specs.declared.place.Place.{Place as Spot}
use Rattle.pfs_rows.specs.declared.place.Place.TheVariants.{ThreadCell, AccountCell, UserCell, HostCell, GlobalCell}
use Rattle.pfs_law_conservation.specs.KindRows.{seat_if, seat_by, seat_in, is_somewhere, is_kind_row, kind_rows_from, kind_rows}

-- the two ways between rows and places undo each other
abbrev pub AreBack : Type 0
AreBack = (spot : Spot) → IsPlace spot → place_at (row_number spot) ≡ Some spot

abbrev pub AreFound : Type 0
AreFound = (row : ℕ) → row < 14242 → (spot : Spot) × IsPlace spot × (row_number spot ≡ row)

pub seat_at : AreBack → (is_cell : ℕ → Bool) (spot : Spot) → IsPlace spot → seat_in is_cell (row_number spot) ≡ seat_by is_cell (Some spot)
seat_at back is_cell spot is = ap (seat_by is_cell) (back spot is)

kind_if : (is_cell : ℕ → Bool) (cell : ℕ) (place : Place) → is_somewhere place ≡ true → is_somewhere (seat_if is_cell cell place).place ≡ is_cell cell
kind_if is_cell cell place s = at (is_cell cell) refl where
  at : (b : Bool) → is_cell cell ≡ b → is_somewhere (cond {A = Seat} b (record { cell = cell; place = place }) (record { cell = 0; place = Elsewhere })).place ≡ is_cell cell
  at true q = s ∙ sym q
  at false q = sym q

-- a cell's row is one of the kind where the cell is
pub thread_kind : AreBack → (is_cell : ℕ → Bool) (slot cell : ℕ) → slot < 32 → cell < 64 → is_kind_row is_cell (row_number (ThreadCell slot cell)) ≡ is_cell cell
thread_kind back is_cell slot cell s c = ap (λ (z : Seat). is_somewhere z.place) (seat_at back is_cell (ThreadCell slot cell) (s, c)) ∙ kind_if is_cell cell (Thread slot) refl

pub account_kind : AreBack → (is_cell : ℕ → Bool) (place cell : ℕ) → place < 32 → cell < 64 → is_kind_row is_cell (row_number (AccountCell place cell)) ≡ is_cell cell
account_kind back is_cell place cell s c = ap (λ (z : Seat). is_somewhere z.place) (seat_at back is_cell (AccountCell place cell) (s, c)) ∙ kind_if is_cell cell (Account place) refl

pub user_kind : AreBack → (is_cell : ℕ → Bool) (place cell : ℕ) → place < 32 → cell < 64 → is_kind_row is_cell (row_number (UserCell place cell)) ≡ is_cell cell
user_kind back is_cell place cell s c = ap (λ (z : Seat). is_somewhere z.place) (seat_at back is_cell (UserCell place cell) (s, c)) ∙ kind_if is_cell cell (User place) refl

pub host_kind : AreBack → (is_cell : ℕ → Bool) (place cell : ℕ) → place < 32 → cell < 64 → is_kind_row is_cell (row_number (HostCell place cell)) ≡ is_cell cell
host_kind back is_cell place cell s c = ap (λ (z : Seat). is_somewhere z.place) (seat_at back is_cell (HostCell place cell) (s, c)) ∙ kind_if is_cell cell (Host place) refl

pub global_kind : AreBack → (is_cell : ℕ → Bool) (cell : ℕ) → cell < 64 → is_kind_row is_cell (row_number (GlobalCell cell)) ≡ is_cell cell
global_kind back is_cell cell c = ap (λ (z : Seat). is_somewhere z.place) (seat_at back is_cell (GlobalCell cell) c) ∙ kind_if is_cell cell Global refl

-- whether a place is this slot
abbrev pub is_slot : ℕ → Place → Bool
is_slot slot (Thread other) = other == slot
is_slot slot (Account place) = false
is_slot slot (User place) = false
is_slot slot (Host place) = false
is_slot slot Global = false
is_slot slot Elsewhere = false

-- a row that isn't among those of the slot is another's
pub other_slot : AreBack → AreFound → (is_cell : ℕ → Bool) (slot row : ℕ) → row < 14242 → (129 + 64 * slot ≤ row → row < 129 + 64 * slot + 64 → ⊥) → is_slot slot (seat_in is_cell row).place ≡ false
other_slot back found is_cell slot row h out = on (found row h) where
  same : (spot : Spot) → IsPlace spot → row_number spot ≡ row → is_slot slot (seat_by is_cell (Some spot)).place ≡ false → is_slot slot (seat_in is_cell row).place ≡ false
  same spot is e f = ap (λ r. is_slot slot (seat_in is_cell r).place) (sym e) ∙ (ap (λ (z : Seat). is_slot slot z.place) (seat_at back is_cell spot is) ∙ f)

  if_cell : (cell : ℕ) (place : Place) → is_slot slot place ≡ false → is_slot slot (seat_if is_cell cell place).place ≡ false
  if_cell cell place f = at (is_cell cell) where
    at : (b : Bool) → is_slot slot (cond {A = Seat} b (record { cell = cell; place = place }) (record { cell = 0; place = Elsewhere })).place ≡ false
    at true = f
    at false = refl

  apart : (t cell : ℕ) → cell < 64 → 129 + 64 * t + cell ≡ row → (t == slot) ≡ false
  apart t cell c e = at (t == slot) refl where
    eq_of : (a b : ℕ) → (a == b) ≡ true → a ≡ b
    eq_of a b q = grind arith

    at : (b : Bool) → (t == slot) ≡ b → b ≡ false
    at true q = let s : t ≡ slot = eq_of t slot q in absurd (out (omega (arith, s, c, e)) (omega (arith, s, c, e)))
    at false q = refl

  by : (spot : Spot) → IsPlace spot → row_number spot ≡ row → is_slot slot (seat_by is_cell (Some spot)).place ≡ false
  by (ThreadCell t cell) is e = if_cell cell (Thread t) (apart t cell is.1 e)
  by (AccountCell place cell) is e = if_cell cell (Account place) refl
  by (UserCell place cell) is e = if_cell cell (User place) refl
  by (HostCell place cell) is e = if_cell cell (Host place) refl
  by (GlobalCell cell) is e = if_cell cell Global refl
  by _ is e = refl

  on : (spot : Spot) × IsPlace spot × (row_number spot ≡ row) → is_slot slot (seat_in is_cell row).place ≡ false
  on (spot, is, e) = same spot is e (by spot is e)

module _ (is_cell : ℕ → Bool) (holder : ℕ → ℕ → Option Owner) (takes : ℕ → ℕ → Bool) (action : ℕ) where
  pub moves_then : (xs ys : List ℕ) → moves_of holder takes action (xs ++ ys) ≡ moves_of holder takes action xs ++ moves_of holder takes action ys
  moves_then [] ys = refl
  moves_then (x ∷ xs) ys = on (cond (takes action x) (moved_by (holder action x) action x) []) (moves_then xs ys) where
    on : (zs : List Move) → moves_of holder takes action (xs ++ ys) ≡ moves_of holder takes action xs ++ moves_of holder takes action ys → zs ++ moves_of holder takes action (xs ++ ys) ≡ (zs ++ moves_of holder takes action xs) ++ moves_of holder takes action ys
    on [] e = e
    on (z ∷ zs) e = ap (λ (ws : List Move). z ∷ ws) (on zs e)

  -- rows that it doesn't take
  pub none_moved : (row more : ℕ) → ((r : ℕ) → row ≤ r → r < row + more → takes action r ≡ false) → moves_of holder takes action (kind_rows_from is_cell row more) ≡ []
  none_moved row zero h = refl
  none_moved row (suc more) h = at (is_kind_row is_cell row) (none_moved (suc row) more (λ r l m. h r (omega (arith, l)) (omega (arith, m)))) where
    at : (b : Bool) → moves_of holder takes action (kind_rows_from is_cell (suc row) more) ≡ [] → moves_of holder takes action (cond b (row ∷ []) [] ++ kind_rows_from is_cell (suc row) more) ≡ []
    at true ih = ap (λ z. cond z (moved_by (holder action row) action row) [] ++ moves_of holder takes action (kind_rows_from is_cell (suc row) more)) (h row (omega arith) (omega arith)) ∙ ih
    at false ih = ih

  pub rows_then : (row m n : ℕ) → kind_rows_from is_cell row (m + n) ≡ kind_rows_from is_cell row m ++ kind_rows_from is_cell (row + m) n
  rows_then row zero n = ap (λ k. kind_rows_from is_cell row k) (left n) ∙ ap (λ r. kind_rows_from is_cell r n) (plus row) where
    plus : (a : ℕ) → a ≡ a + 0
    plus a = omega arith

    left : (n : ℕ) → 0 + n ≡ n
    left n = omega arith
  rows_then row (suc m) n = ap (λ k. kind_rows_from is_cell row k) (more m n) ∙ ap (λ (z : List ℕ). cond (is_kind_row is_cell row) (row ∷ []) [] ++ z) (rows_then (suc row) m n ∙ ap (λ r. kind_rows_from is_cell (suc row) m ++ kind_rows_from is_cell r n) (shift row m)) ∙ sym (assoc (is_kind_row is_cell row)) where
    shift : (a b : ℕ) → suc a + b ≡ a + suc b
    shift a b = omega arith

    more : (a b : ℕ) → suc a + b ≡ suc (a + b)
    more a b = omega arith

    assoc : (b : Bool) → (cond b (row ∷ []) [] ++ kind_rows_from is_cell (suc row) m) ++ kind_rows_from is_cell (row + suc m) n ≡ cond b (row ∷ []) [] ++ (kind_rows_from is_cell (suc row) m ++ kind_rows_from is_cell (row + suc m) n)
    assoc true = refl
    assoc false = refl

  -- the moves of cells from one on, so many
  abbrev pub cell_moves : (ℕ → Move) → ℕ → ℕ → List Move
  cell_moves move cell zero = []
  cell_moves move cell (suc more) = cond (is_cell cell) (move cell ∷ []) [] ++ cell_moves move (cell + 1) more

  -- a slot's rows
  slot_moved : (base : ℕ) (move : ℕ → Move) → ((cell : ℕ) → cell < 64 → is_kind_row is_cell (base + cell) ≡ is_cell cell)
      → ((cell : ℕ) → cell < 64 → is_cell cell ≡ true → cond (takes action (base + cell)) (moved_by (holder action (base + cell)) action (base + cell)) [] ≡ move cell ∷ [])
      → (row cell more : ℕ) → row ≡ base + cell → cell + more ≤ 64 → moves_of holder takes action (kind_rows_from is_cell row more) ≡ cell_moves move cell more
  slot_moved base move kinds moved row cell zero e l = refl
  slot_moved base move kinds moved row cell (suc more) e l = at (is_cell cell) refl (slot_moved base move kinds moved (suc row) (cell + 1) more (omega (arith, e)) (omega (arith, l))) where
    low : cell < 64
    low = omega (arith, l)

    at : (b : Bool) → is_cell cell ≡ b → moves_of holder takes action (kind_rows_from is_cell (suc row) more) ≡ cell_moves move (cell + 1) more
        → moves_of holder takes action (cond (is_kind_row is_cell row) (row ∷ []) [] ++ kind_rows_from is_cell (suc row) more) ≡ cond b (move cell ∷ []) [] ++ cell_moves move (cell + 1) more
    at true q ih =
        ap (λ z. moves_of holder takes action (cond z (row ∷ []) [] ++ kind_rows_from is_cell (suc row) more)) (ap (is_kind_row is_cell) e ∙ (kinds cell low ∙ q))
        ∙ (ap (λ (z : List Move). z ++ moves_of holder takes action (kind_rows_from is_cell (suc row) more)) (ap (λ r. cond (takes action r) (moved_by (holder action r) action r) []) e ∙ moved cell low q)
        ∙ ap (λ (z : List Move). move cell ∷ z) ih)
    at false q ih = ap (λ z. moves_of holder takes action (cond z (row ∷ []) [] ++ kind_rows_from is_cell (suc row) more)) (ap (is_kind_row is_cell) e ∙ (kinds cell low ∙ q)) ∙ ih

  -- an action that takes none of the kind's rows moves none
  pub none_of_all : ((r : ℕ) → takes action r ≡ false) → moves_of holder takes action (kind_rows is_cell) ≡ []
  unfolding kind_rows
  none_of_all h = none_moved 129 8256 (λ r l m. h r)

  -- one that takes a slot's rows alone moves these
  pub slot_of_all : (slot : ℕ) (move : ℕ → Move) → slot < 32
      → ((r : ℕ) → r < 14242 → (129 + 64 * slot ≤ r → r < 129 + 64 * slot + 64 → ⊥) → takes action r ≡ false)
      → ((cell : ℕ) → cell < 64 → is_kind_row is_cell ((129 + 64 * slot) + cell) ≡ is_cell cell)
      → ((cell : ℕ) → cell < 64 → is_cell cell ≡ true → cond (takes action ((129 + 64 * slot) + cell)) (moved_by (holder action ((129 + 64 * slot) + cell)) action ((129 + 64 * slot) + cell)) [] ≡ move cell ∷ [])
      → moves_of holder takes action (kind_rows is_cell) ≡ cell_moves move 0 64
  unfolding kind_rows
  slot_of_all slot move s out kinds moved =
      let base : ℕ = 129 + 64 * slot in
      ap (λ n. moves_of holder takes action (kind_rows_from is_cell 129 n)) (split slot s)
      ∙ (ap (λ (z : List ℕ). moves_of holder takes action z) (rows_then 129 (64 * slot) (64 + (8192 - 64 * slot)))
      ∙ (moves_then (kind_rows_from is_cell 129 (64 * slot)) (kind_rows_from is_cell (129 + 64 * slot) (64 + (8192 - 64 * slot)))
      ∙ (ap (λ (z : List Move). z ++ moves_of holder takes action (kind_rows_from is_cell (129 + 64 * slot) (64 + (8192 - 64 * slot)))) (none_moved 129 (64 * slot) (λ r l m. out r (omega (arith, m, s)) (λ a b. omega (arith, m, a))))
      ∙ (ap (λ (z : List ℕ). moves_of holder takes action z) (rows_then (129 + 64 * slot) 64 (8192 - 64 * slot))
      ∙ (moves_then (kind_rows_from is_cell (129 + 64 * slot) 64) (kind_rows_from is_cell ((129 + 64 * slot) + 64) (8192 - 64 * slot))
      ∙ (ap (λ (z : List Move). moves_of holder takes action (kind_rows_from is_cell (129 + 64 * slot) 64) ++ z) (none_moved ((129 + 64 * slot) + 64) (8192 - 64 * slot) (λ r l m. out r (omega (arith, m, s)) (λ a b. omega (arith, l, b))))
      ∙ (no_more (moves_of holder takes action (kind_rows_from is_cell (129 + 64 * slot) 64))
      ∙ slot_moved (129 + 64 * slot) move kinds moved (129 + 64 * slot) 0 64 (plus (129 + 64 * slot)) (omega arith)))))))) where
        split : (slot : ℕ) → slot < 32 → 8256 ≡ 64 * slot + (64 + (8192 - 64 * slot))
        split slot s = omega (arith, s)

        plus : (a : ℕ) → a ≡ a + 0
        plus a = omega arith

        no_more : (xs : List Move) → xs ++ [] ≡ xs
        no_more [] = refl
        no_more (x ∷ xs) = ap (λ (zs : List Move). x ∷ zs) (no_more xs)
