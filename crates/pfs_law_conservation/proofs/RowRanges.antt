-- The rows of a kind are rows of cells, 129 to 8384.
use Rattle.std.proofs.Common.{◌≡◌, refl, ℕ, ◌<◌, ◌≤◌, Bool, true, false, nat_lt, Option, Some, None, sym, ap, ◌∙◌, arith}
use Rattle.pfs_conservation.specs.CellHolders.{Seat}
use Rattle.pfs_rows.specs.Rows.{IsPlace, row_number, place_at}
use Rattle.pfs_rows.specs.declared.place.Place.{Place as Spot}
use Rattle.pfs_rows.specs.declared.place.Place.TheVariants.{ThreadCell, AccountCell, UserCell, HostCell, GlobalCell}
use Rattle.pfs_law_conservation.specs.KindRows.{seat_by, is_somewhere, is_kind_row}
use Rattle.pfs_law_conservation.proofs.SlotMoves.{AreBack, AreFound, seat_at}

-- past the last row is no place
abbrev pub AreNone : Type 0
AreNone = (row : ℕ) → 14242 ≤ row → place_at row ≡ None

module _ (back : AreBack) (found : AreFound) (none : AreNone) (is_cell : ℕ → Bool) where
  there : (row : ℕ) → row < 14242 → (129 ≤ row → row < 8385 → ⊥) → is_kind_row is_cell row ≡ false
  there row low out = on (found row low) where
    by : (spot : Spot) → IsPlace spot → row_number spot ≡ row → is_somewhere (seat_by is_cell (Some spot)).place ≡ false
    by (ThreadCell t cell) is e = absurd (out (omega (arith, is, e)) (omega (arith, is, e)))
    by (AccountCell place cell) is e = absurd (out (omega (arith, is, e)) (omega (arith, is, e)))
    by (UserCell place cell) is e = absurd (out (omega (arith, is, e)) (omega (arith, is, e)))
    by (HostCell place cell) is e = absurd (out (omega (arith, is, e)) (omega (arith, is, e)))
    by (GlobalCell cell) is e = absurd (out (omega (arith, is, e)) (omega (arith, is, e)))
    by _ is e = refl

    on : (spot : Spot) × IsPlace spot × (row_number spot ≡ row) → is_kind_row is_cell row ≡ false
    on (spot, is, e) = ap (λ r. is_kind_row is_cell r) (sym e) ∙ (ap (λ (z : Seat). is_somewhere z.place) (seat_at back is_cell spot is) ∙ by spot is e)

  pub outside : (row : ℕ) → (129 ≤ row → row < 8385 → ⊥) → is_kind_row is_cell row ≡ false
  outside row out = at (nat_lt row 14242) refl where
    below : (a b : ℕ) → nat_lt a b ≡ true → a < b
    below a b q = grind arith

    past : (a b : ℕ) → nat_lt a b ≡ false → b ≤ a
    past a b q = grind arith

    at : (b : Bool) → nat_lt row 14242 ≡ b → is_kind_row is_cell row ≡ false
    at true q = there row (below row 14242 q) out
    at false q = ap (λ (z : Option Spot). is_somewhere (seat_by is_cell z).place) (none row (past row 14242 q))

  pub kind_range : (row : ℕ) → is_kind_row is_cell row ≡ true → (129 ≤ row) × (row < 8385)
  kind_range row is = at (nat_lt row 129) refl (nat_lt row 8385) refl where
    below : (a b : ℕ) → nat_lt a b ≡ true → a < b
    below a b q = grind arith

    past : (a b : ℕ) → nat_lt a b ≡ false → b ≤ a
    past a b q = grind arith

    at : (b : Bool) → nat_lt row 129 ≡ b → (c : Bool) → nat_lt row 8385 ≡ c → (129 ≤ row) × (row < 8385)
    at true q c r = let f : is_kind_row is_cell row ≡ false = outside row (λ l h. let m : row < 129 = below row 129 q in omega (arith, l, m)) in absurd (cc)
    at false q true r = (past row 129 q, below row 8385 r)
    at false q false r = let f : is_kind_row is_cell row ≡ false = outside row (λ l h. let m : 8385 ≤ row = past row 8385 r in omega (arith, h, m)) in absurd (cc)
