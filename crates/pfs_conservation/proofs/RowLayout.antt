-- The board's rows: 64 cells for each of 32 threads from 129 on, accounts from 2177, users from 4225, hosts from 6273, and the global cells from 8321.
use Rattle.std.proofs.Common.{◌⊎◌, inl, inr, ◌≡◌, ℕ, zero, suc, ◌+◌, ◌-◌, ◌*◌, ◌/◌, ◌%◌, ◌<◌, ◌≤◌, ◌==◌, Bool, true, false, cond, List, [], ◌∷◌, ◌++◌, count_by, refl, sym, ap, ◌∙◌, subst, arith}
use Rattle.std.specs.Prelude.{nat_lt}
use Rattle.std.proofs.lemmas.Bool.{eqb-true, le-ltb, lt-ltb, ltb-false, ltb-true}
use Rattle.pfs_conservation.specs.PlaceFolds.{Place, Thread, Account, User, Host, Global, Elsewhere}
use Rattle.pfs_conservation.specs.CellHolders.{Seat, Numbering, IsIn, Between, IsNumbering, place_level}
use Rattle.pfs_conservation.specs.ActionMoves.{RowsAfter, Ranked}
use Rattle.pfs_conservation.specs.KindFacts.{IsListing}
use Rattle.pfs_conservation.proofs.MergeTotals.{bit_yes, bit_no}
use Rattle.pfs_conservation.proofs.ChainEvents.{count_cons}
use Rattle.pfs_conservation.proofs.RowOwners.{differ}

abbrev pub row_of : ℕ → Place → ℕ
row_of cell (Thread t) = 129 + 64 * t + cell
row_of cell (Account a) = 2177 + 64 * a + cell
row_of cell (User u) = 4225 + 64 * u + cell
row_of cell (Host h) = 6273 + 64 * h + cell
row_of cell Global = 8321 + cell
row_of cell Elsewhere = 0

abbrev pub known : (ℕ → Bool) → ℕ → Place → Seat
known is_cell cell place = cond (is_cell cell) (record { cell = cell; place = place }) (record { cell = 0; place = Elsewhere })

abbrev pub seat_of : (ℕ → Bool) → ℕ → Seat
seat_of is_cell row =
    cond (nat_lt row 129) (record { cell = 0; place = Elsewhere })
    (cond (nat_lt row 2177) (known is_cell ((row - 129) % 64) (Thread ((row - 129) / 64)))
    (cond (nat_lt row 4225) (known is_cell ((row - 2177) % 64) (Account ((row - 2177) / 64)))
    (cond (nat_lt row 6273) (known is_cell ((row - 4225) % 64) (User ((row - 4225) / 64)))
    (cond (nat_lt row 8321) (known is_cell ((row - 6273) % 64) (Host ((row - 6273) / 64)))
    (cond (nat_lt row 8385) (known is_cell (row - 8321) Global) (record { cell = 0; place = Elsewhere }))))))

abbrev pub board : (ℕ → Bool) → Numbering
board is_cell = record { is_cell = is_cell; row = row_of; seat = seat_of is_cell; accounts = 2177; users = 4225; hosts = 6273; globals = 8321 }

seat_same : (a b : ℕ) (p q : Place) → a ≡ b → p ≡ q → ◌≡◌ {A = Seat} (record { cell = a; place = p }) (record { cell = b; place = q })
seat_same a b p q e f = ap (λ n. record { cell = n; place = p }) e ∙ ap (λ (z : Place). record { cell = b; place = z }) f

module _ (is_cell : ℕ → Bool) (low : (cell : ℕ) → is_cell cell ≡ true → cell < 64) where
  known_is : (cell at : ℕ) (p q : Place) → is_cell cell ≡ true → at ≡ cell → q ≡ p → known is_cell at q ≡ record { cell = cell; place = p }
  known_is cell at p q c e f = ap (λ n. known is_cell n q) e ∙ (ap (λ b. cond b (record { cell = cell; place = q }) (record { cell = 0; place = Elsewhere })) c ∙ seat_same cell cell q p refl f)

  cell_is : (base t cell row : ℕ) → cell < 64 → row ≡ base + 64 * t + cell → (row - base) % 64 ≡ cell
  cell_is base t cell row l e = omega arith

  place_is : (base t cell row : ℕ) → cell < 64 → row ≡ base + 64 * t + cell → (row - base) / 64 ≡ t
  place_is base t cell row l e = omega arith

  seats : (cell : ℕ) (p : Place) → is_cell cell ≡ true → IsIn p → seat_of is_cell (row_of cell p) ≡ record { cell = cell; place = p }
  seats cell (Thread t) c i =
      let l : cell < 64 = low cell c in
      rw (le-ltb (129 + 64 * t + cell) 129 (omega arith), lt-ltb (129 + 64 * t + cell) 2177 (omega arith))
      (known_is cell (((129 + 64 * t + cell) - 129) % 64) (Thread t) (Thread (((129 + 64 * t + cell) - 129) / 64)) c (cell_is 129 t cell (129 + 64 * t + cell) l refl) (ap (λ n. Thread n) (place_is 129 t cell (129 + 64 * t + cell) l refl)))
  seats cell (Account t) c i =
      let l : cell < 64 = low cell c in
      rw (le-ltb (2177 + 64 * t + cell) 129 (omega arith), le-ltb (2177 + 64 * t + cell) 2177 (omega arith), lt-ltb (2177 + 64 * t + cell) 4225 (omega arith))
      (known_is cell (((2177 + 64 * t + cell) - 2177) % 64) (Account t) (Account (((2177 + 64 * t + cell) - 2177) / 64)) c (cell_is 2177 t cell (2177 + 64 * t + cell) l refl) (ap (λ n. Account n) (place_is 2177 t cell (2177 + 64 * t + cell) l refl)))
  seats cell (User t) c i =
      let l : cell < 64 = low cell c in
      rw (le-ltb (4225 + 64 * t + cell) 129 (omega arith), le-ltb (4225 + 64 * t + cell) 2177 (omega arith), le-ltb (4225 + 64 * t + cell) 4225 (omega arith), lt-ltb (4225 + 64 * t + cell) 6273 (omega arith))
      (known_is cell (((4225 + 64 * t + cell) - 4225) % 64) (User t) (User (((4225 + 64 * t + cell) - 4225) / 64)) c (cell_is 4225 t cell (4225 + 64 * t + cell) l refl) (ap (λ n. User n) (place_is 4225 t cell (4225 + 64 * t + cell) l refl)))
  seats cell (Host t) c i =
      let l : cell < 64 = low cell c in
      rw (le-ltb (6273 + 64 * t + cell) 129 (omega arith), le-ltb (6273 + 64 * t + cell) 2177 (omega arith), le-ltb (6273 + 64 * t + cell) 4225 (omega arith), le-ltb (6273 + 64 * t + cell) 6273 (omega arith), lt-ltb (6273 + 64 * t + cell) 8321 (omega arith))
      (known_is cell (((6273 + 64 * t + cell) - 6273) % 64) (Host t) (Host (((6273 + 64 * t + cell) - 6273) / 64)) c (cell_is 6273 t cell (6273 + 64 * t + cell) l refl) (ap (λ n. Host n) (place_is 6273 t cell (6273 + 64 * t + cell) l refl)))
  seats cell Global c i =
      let l : cell < 64 = low cell c in
      rw (le-ltb (8321 + cell) 129 (omega arith), le-ltb (8321 + cell) 2177 (omega arith), le-ltb (8321 + cell) 4225 (omega arith), le-ltb (8321 + cell) 6273 (omega arith), le-ltb (8321 + cell) 8321 (omega arith), lt-ltb (8321 + cell) 8385 (omega arith))
      (known_is cell ((8321 + cell) - 8321) Global Global c (omega arith) refl)
  seats cell Elsewhere c i = absurd i

  -- what a row is
  data Range (row : ℕ) : Type 0 where
    Known : (cell : ℕ) (p : Place) → is_cell cell ≡ true → IsIn p → row_of cell p ≡ row → seat_of is_cell row ≡ record { cell = cell; place = p } → Range row
    Past : (seat_of is_cell row).place ≡ Elsewhere → Range row

  range_known : (row cell : ℕ) (p : Place) → seat_of is_cell row ≡ known is_cell cell p → IsIn p → row_of cell p ≡ row → Range row
  range_known row cell p s i r = at (is_cell cell) refl
    where
      at : (b : Bool) → is_cell cell ≡ b → Range row
      at true c = Known cell p c i r (s ∙ ap (λ b. cond b (record { cell = cell; place = p }) (record { cell = 0; place = Elsewhere })) c)
      at false c = Past (ap (λ (z : Seat). z.place) (s ∙ ap (λ b. cond b (record { cell = cell; place = p }) (record { cell = 0; place = Elsewhere })) c))

  back : (base row : ℕ) → base ≤ row → base + 64 * ((row - base) / 64) + (row - base) % 64 ≡ row
  back base row l = omega arith

  within : (base row : ℕ) → base ≤ row → row < base + 2048 → (row - base) / 64 < 32
  within base row l h = omega arith

  range : (row : ℕ) → Range row
  range row = at (nat_lt row 129) (nat_lt row 2177) (nat_lt row 4225) (nat_lt row 6273) (nat_lt row 8321) (nat_lt row 8385) refl refl refl refl refl refl
    where
      at : (a b c d e f : Bool) → nat_lt row 129 ≡ a → nat_lt row 2177 ≡ b → nat_lt row 4225 ≡ c → nat_lt row 6273 ≡ d → nat_lt row 8321 ≡ e → nat_lt row 8385 ≡ f → Range row
      at true b c d e f p q r s t u = Past (rw p refl)
      at false true c d e f p q r s t u = let l : 129 ≤ row = ltb-false row 129 p in let h : row < 2177 = ltb-true row 2177 q in range_known row ((row - 129) % 64) (Thread ((row - 129) / 64)) (rw (p, q) refl) (within 129 row l (omega arith)) (back 129 row l)
      at false false true d e f p q r s t u = let l : 2177 ≤ row = ltb-false row 2177 q in let h : row < 4225 = ltb-true row 4225 r in range_known row ((row - 2177) % 64) (Account ((row - 2177) / 64)) (rw (p, q, r) refl) (within 2177 row l (omega arith)) (back 2177 row l)
      at false false false true e f p q r s t u = let l : 4225 ≤ row = ltb-false row 4225 r in let h : row < 6273 = ltb-true row 6273 s in range_known row ((row - 4225) % 64) (User ((row - 4225) / 64)) (rw (p, q, r, s) refl) (within 4225 row l (omega arith)) (back 4225 row l)
      at false false false false true f p q r s t u = let l : 6273 ≤ row = ltb-false row 6273 s in let h : row < 8321 = ltb-true row 8321 t in range_known row ((row - 6273) % 64) (Host ((row - 6273) / 64)) (rw (p, q, r, s, t) refl) (within 6273 row l (omega arith)) (back 6273 row l)
      at false false false false false true p q r s t u = let l : 8321 ≤ row = ltb-false row 8321 t in range_known row (row - 8321) Global (rw (p, q, r, s, t, u) refl) tt (omega arith)
      at false false false false false false p q r s t u = Past (rw (p, q, r, s, t, u) refl)

  pub board_good : IsNumbering (board is_cell)
  board_good = record {
    seats = seats;
    rows = λ row i. row_is row (range row) i;
    between = bounds;
    users = omega arith;
    hosts = omega arith;
    globals = omega arith;
  }
    where
      row_is : (row : ℕ) → Range row → IsIn (seat_of is_cell row).place → row_of (seat_of is_cell row).cell (seat_of is_cell row).place ≡ row
      row_is row (Known cell p c i r s) w = ap (λ (z : Seat). row_of z.cell z.place) s ∙ r
      row_is row (Past s) w = absurd (subst IsIn s w)

      bounds : (cell : ℕ) (p : Place) → is_cell cell ≡ true → IsIn p → Between (board is_cell) p (row_of cell p)
      bounds cell (Thread t) c i = let l : cell < 64 = low cell c in omega arith
      bounds cell (Account t) c i = let l : cell < 64 = low cell c in (omega arith, omega arith)
      bounds cell (User t) c i = let l : cell < 64 = low cell c in (omega arith, omega arith)
      bounds cell (Host t) c i = let l : cell < 64 = low cell c in (omega arith, omega arith)
      bounds cell Global c i = omega arith
      bounds cell Elsewhere c i = i

  -- the rows of the kind
  abbrev pub is_here : Place → Bool
  is_here Elsewhere = false
  is_here place = true

  abbrev pub kind_rows : ℕ → ℕ → List ℕ
  kind_rows row zero = []
  kind_rows row (suc more) = cond (is_here (seat_of is_cell row).place) (row ∷ []) [] ++ kind_rows (suc row) more

  here_in : (row : ℕ) → is_here (seat_of is_cell row).place ≡ true → (cell : ℕ) × (p : Place) × (is_cell cell ≡ true) × IsIn p × (row_of cell p ≡ row) × (seat_of is_cell row ≡ record { cell = cell; place = p })
  here_in row h = at (range row)
    where
      at : Range row → (cell : ℕ) × (p : Place) × (is_cell cell ≡ true) × IsIn p × (row_of cell p ≡ row) × (seat_of is_cell row ≡ record { cell = cell; place = p })
      at (Known cell p c i r s) = (cell, p, c, i, r, s)
      at (Past s) = differ (sym (ap is_here (sym s) ∙ h))

  in_here : (p : Place) → IsIn p → is_here p ≡ true
  in_here (Thread t) i = refl
  in_here (Account t) i = refl
  in_here (User t) i = refl
  in_here (Host t) i = refl
  in_here Global i = refl
  in_here Elsewhere i = absurd i

  level_order : (c d : ℕ) (p q : Place) (a b : ℕ) → c < 64 → d < 64 → IsIn p → IsIn q → row_of c p ≡ a → row_of d q ≡ b → a ≤ b → place_level p ≤ place_level q
  level_order c d Elsewhere q a b l m i j e f h = absurd i
  level_order c d (Thread t) Elsewhere a b l m i j e f h = absurd j
  level_order c d (Account t) Elsewhere a b l m i j e f h = absurd j
  level_order c d (User t) Elsewhere a b l m i j e f h = absurd j
  level_order c d (Host t) Elsewhere a b l m i j e f h = absurd j
  level_order c d Global Elsewhere a b l m i j e f h = absurd j
  level_order c d p q a b l m i j e f h = omega arith

  levels_up : (a b : ℕ) → a ≤ b → is_here (seat_of is_cell a).place ≡ true → is_here (seat_of is_cell b).place ≡ true → place_level (seat_of is_cell a).place ≤ place_level (seat_of is_cell b).place
  levels_up a b h x y =
      let u : (cell : ℕ) × (p : Place) × (is_cell cell ≡ true) × IsIn p × (row_of cell p ≡ a) × (seat_of is_cell a ≡ record { cell = cell; place = p }) = here_in a x in
      let w : (cell : ℕ) × (p : Place) × (is_cell cell ≡ true) × IsIn p × (row_of cell p ≡ b) × (seat_of is_cell b ≡ record { cell = cell; place = p }) = here_in b y in
      subst (λ (z : Seat). place_level z.place ≤ place_level (seat_of is_cell b).place) (sym u.5) (subst (λ (z : Seat). place_level u.1 ≤ place_level z.place) (sym w.5) (level_order u.0 w.0 u.1 w.1 a b (low u.0 u.2) (low w.0 w.2) u.3 w.3 u.4 w.4 h))

  rows_after : (level : ℕ → ℕ) → ((a b : ℕ) → a ≤ b → is_here (seat_of is_cell a).place ≡ true → is_here (seat_of is_cell b).place ≡ true → level a ≤ level b) → (first row more : ℕ) → first < row → is_here (seat_of is_cell first).place ≡ true → RowsAfter level first (kind_rows row more)
  rows_after level up first row zero l h = tt
  rows_after level up first row (suc more) l h = at (is_here (seat_of is_cell row).place) refl (rows_after level up first (suc row) more (omega arith) h)
    where
      at : (b : Bool) → is_here (seat_of is_cell row).place ≡ b → RowsAfter level first (kind_rows (suc row) more) → RowsAfter level first (cond b (row ∷ []) [] ++ kind_rows (suc row) more)
      at true q ih = (up first row (omega arith) h q, (λ e. (let e : first ≡ row = e in omega arith)), ih)
      at false q ih = ih

  ranked : (level : ℕ → ℕ) → ((a b : ℕ) → a ≤ b → is_here (seat_of is_cell a).place ≡ true → is_here (seat_of is_cell b).place ≡ true → level a ≤ level b) → (row more : ℕ) → Ranked level (kind_rows row more)
  ranked level up row zero = tt
  ranked level up row (suc more) = at (is_here (seat_of is_cell row).place) refl (ranked level up (suc row) more)
    where
      at : (b : Bool) → is_here (seat_of is_cell row).place ≡ b → Ranked level (kind_rows (suc row) more) → Ranked level (cond b (row ∷ []) [] ++ kind_rows (suc row) more)
      at true q ih = (rows_after level up row (suc row) more (omega arith) q, ih)
      at false q ih = ih

  none_before : (row more r : ℕ) → r < row → count_by (λ x. x == r) (kind_rows row more) ≡ 0
  none_before row zero r l = refl
  none_before row (suc more) r l = at (is_here (seat_of is_cell row).place) (none_before (suc row) more r (omega arith))
    where
      apart : (a b : ℕ) → b < a → (a == b) ≡ false
      apart a b l = grind (arith, l)

      at : (b : Bool) → count_by (λ x. x == r) (kind_rows (suc row) more) ≡ 0 → count_by (λ x. x == r) (cond b (row ∷ []) [] ++ kind_rows (suc row) more) ≡ 0
      at true ih = omega (arith, ih, count_cons (λ x. x == r) row (kind_rows (suc row) more), bit_no (row == r) (apart row r l))
      at false ih = ih

  one_in : (row more r : ℕ) → row ≤ r → r < row + more → is_here (seat_of is_cell r).place ≡ true → count_by (λ x. x == r) (kind_rows row more) ≡ 1
  one_in row zero r l h y = absurd (omega arith)
  one_in row (suc more) r l h y = by (row == r) refl (λ up. one_in (suc row) more r up (omega arith) y)
    where
      less : (a b : ℕ) → a ≤ b → (a == b) ≡ false → suc a ≤ b
      less a b l q = grind (arith, l, q)

      at : (b : Bool) → (row == r) ≡ false → count_by (λ x. x == r) (kind_rows (suc row) more) ≡ 1 → count_by (λ x. x == r) (cond b (row ∷ []) [] ++ kind_rows (suc row) more) ≡ 1
      at true q ih = omega (arith, ih, count_cons (λ x. x == r) row (kind_rows (suc row) more), bit_no (row == r) q)
      at false q ih = ih

      by : (b : Bool) → (row == r) ≡ b → (suc row ≤ r → count_by (λ x. x == r) (kind_rows (suc row) more) ≡ 1) → count_by (λ x. x == r) (cond (is_here (seat_of is_cell row).place) (row ∷ []) [] ++ kind_rows (suc row) more) ≡ 1
      by false q ih = at (is_here (seat_of is_cell row).place) q (ih (less row r l q))
      by true q ih =
          let e : row ≡ r = eqb-true row r q in
          ap (λ b. count_by (λ x. x == r) (cond b (row ∷ []) [] ++ kind_rows (suc row) more)) (ap (λ k. is_here (seat_of is_cell k).place) e ∙ y)
          ∙ omega (arith, count_cons (λ x. x == r) row (kind_rows (suc row) more), bit_yes (row == r) q, none_before (suc row) more r (omega arith))

  row_between : (cell : ℕ) (p : Place) (row : ℕ) → cell < 64 → IsIn p → row_of cell p ≡ row → (129 ≤ row) × (row < 129 + 8256)
  row_between cell (Thread t) row l i e = (omega arith, omega arith)
  row_between cell (Account t) row l i e = (omega arith, omega arith)
  row_between cell (User t) row l i e = (omega arith, omega arith)
  row_between cell (Host t) row l i e = (omega arith, omega arith)
  row_between cell Global row l i e = (omega arith, omega arith)
  row_between cell Elsewhere row l i e = absurd i

  pub board_listing : IsListing (board is_cell) (kind_rows 129 8256)
  board_listing = record {
    once = λ row i. once_is row (in_here (seat_of is_cell row).place i);
    ranked = ranked (λ row. place_level (seat_of is_cell row).place) levels_up 129 8256;
    rises = ranked (λ row. row) (λ a b l x y. l) 129 8256;
    known = λ row i. cell_known row (here_in row (in_here (seat_of is_cell row).place i));
    places = λ row. where_is row (range row);
  }
    where
      once_is : (row : ℕ) → is_here (seat_of is_cell row).place ≡ true → count_by (λ r. r == row) (kind_rows 129 8256) ≡ 1
      once_is row y =
          let u : (cell : ℕ) × (p : Place) × (is_cell cell ≡ true) × IsIn p × (row_of cell p ≡ row) × (seat_of is_cell row ≡ record { cell = cell; place = p }) = here_in row y in
          let b : (129 ≤ row) × (row < 129 + 8256) = row_between u.0 u.1 row (low u.0 u.2) u.3 u.4 in
          one_in 129 8256 row b.0 b.1 y

      cell_known : (row : ℕ) → (cell : ℕ) × (p : Place) × (is_cell cell ≡ true) × IsIn p × (row_of cell p ≡ row) × (seat_of is_cell row ≡ record { cell = cell; place = p }) → is_cell (seat_of is_cell row).cell ≡ true
      cell_known row u = ap (λ (z : Seat). is_cell z.cell) u.5 ∙ u.2

      where_is : (row : ℕ) → Range row → IsIn (seat_of is_cell row).place ⊎ ((seat_of is_cell row).place ≡ Elsewhere)
      where_is row (Known cell p c i r s) = inl (subst (λ (z : Seat). IsIn z.place) (sym s) i)
      where_is row (Past s) = inr s
