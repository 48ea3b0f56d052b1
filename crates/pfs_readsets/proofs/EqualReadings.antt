-- When two ways to say which infos were Whole, and which cells a table has, read the same.
use Rattle.std.proofs.Common.{◌≡◌, ℕ, ◌+◌, ◌<◌, Bool, Some, refl, sym, ◌∙◌, ap, arith}
use Rattle.std.specs.Prelude.{◌&&◌}
use Rattle.pfs_rows.specs.declared.place.Place.{Place}
use Rattle.pfs_rows.specs.declared.place.Place.TheVariants.{Admin, ThreadInfo, AccountInfo, UserInfo, HostInfo, ThreadCell, AccountCell, UserCell, HostCell, GlobalCell, DigestNull, Digest, Ring, Long}
use Rattle.pfs_rows.specs.declared.table.Table.{Table}
use Rattle.pfs_rows.specs.Rows.{IsPlace, row_number, place_at}
use Rattle.pfs_readsets.specs.TablePlaces.{reads, has_threads, has_accounts, has_users, has_hosts, is_global, has_ring}
use Rattle.pfs_readsets.specs.ReadSets.{reads_row, on_place}

-- cells below 64 and infos below the row agree
pub record Agree (f g w v : ℕ → Bool) (row : ℕ) : Type 0 where
  pub cells : (cell : ℕ) → cell < 64 → f cell ≡ g cell
  pub whole : (info : ℕ) → info < 129 → info < row → w info ≡ v info

both : {a b c d : Bool} → a ≡ b → c ≡ d → (a && c) ≡ (b && d)
both {b} {c} p q = ap (λ x. x && c) p ∙ ap (λ x. b && x) q

pub reads_same : (table : Table) (f g : ℕ → Bool) (n : ℕ) (w v : ℕ → Bool) (place : Place) → IsPlace place → Agree f g w v (row_number place)
    → reads table f n w place ≡ reads table g n v place
reads_same table f g n w v Admin is h = refl
reads_same table f g n w v (ThreadInfo thread) is h = refl
reads_same table f g n w v (AccountInfo account) is h = refl
reads_same table f g n w v (UserInfo user) is h = refl
reads_same table f g n w v (HostInfo host) is h = refl
reads_same table f g n w v (ThreadCell thread cell) is h =
    ap (λ x. has_threads table && x) (both (h.whole (1 + thread) (omega arith) (omega arith)) (h.cells cell is.1))
reads_same table f g n w v (AccountCell account cell) is h =
    ap (λ x. has_accounts table && x) (both (h.whole (33 + account) (omega arith) (omega arith)) (h.cells cell is.1))
reads_same table f g n w v (UserCell user cell) is h =
    ap (λ x. has_users table && x) (both (h.whole (65 + user) (omega arith) (omega arith)) (h.cells cell is.1))
reads_same table f g n w v (HostCell host cell) is h =
    ap (λ x. has_hosts table && x) (both (h.whole (97 + host) (omega arith) (omega arith)) (h.cells cell is.1))
reads_same table f g n w v (GlobalCell cell) is h = ap (λ x. is_global table && x) (h.cells cell is)
reads_same table f g n w v DigestNull is h = refl
reads_same table f g n w v (Digest digest) is h = refl
reads_same table f g n w v (Ring thread place) is h = ap (λ x. has_ring table place && x) (h.whole (1 + thread) (omega arith) (omega arith))
reads_same table f g n w v (Long number place) is h = refl

-- each row is a place
abbrev pub RowsArePlaces : Type 0
RowsArePlaces = (row : ℕ) → row < 14242 → (place : Place) × IsPlace place × (row_number place ≡ row) × (place_at row ≡ Some place)

pub rows_same : RowsArePlaces → (table : Table) (f g : ℕ → Bool) (n : ℕ) (w v : ℕ → Bool) (row : ℕ) → row < 14242 → Agree f g w v row
    → reads_row table f n w row ≡ reads_row table g n v row
rows_same places table f g n w v row below h =
    let p = places row below in
    let here : Agree f g w v (row_number p.0) = record { cells = h.cells; whole = λ info few low. h.whole info few (omega (arith, p.2)) } in
    ap (on_place (reads table f n w)) p.3 ∙ (reads_same table f g n w v p.0 p.1 here ∙ ap (on_place (reads table g n v)) (sym p.3))

-- as a law of the rows says it
pub rows_are_places : ((row : ℕ) → row < 14242 → (place : Place) × IsPlace place × (row_number place ≡ row)) → ((place : Place) → IsPlace place → place_at (row_number place) ≡ Some place) → RowsArePlaces
rows_are_places found back row below = let f = found row below in (f.0, f.1, f.2, ap place_at (sym f.2) ∙ back f.0 f.1)
