-- The rows of one kind's cells by their numbers, as conservation goes by them.
use Rattle.std.specs.Prelude.{ℕ, zero, suc, cond, Bool, true, false, List, [], ◌∷◌, ◌++◌, Option, Some}
use Rattle.pfs_classes.specs.declared.setting.Setting.{Setting}
use Rattle.pfs_conservation.specs.PlaceFolds.{Place, Thread, Account, User, Host, Global, Elsewhere}
use Rattle.pfs_conservation.specs.CellHolders.{Seat, Numbering, Limits}
use Rattle.pfs_readsets.specs.TablePlaces.{is_kind_cell}
use Rattle.pfs_rows.specs.Rows.{row_number, place_at}
use Rattle.pfs_rows.specs.declared.place.Place.{Place as Spot}
use Rattle.pfs_rows.specs.declared.place.Place.TheVariants.{ThreadCell, AccountCell, UserCell, HostCell, GlobalCell}
use Rattle.pfs_rows.specs.declared.table.TableKind.{TableKind}

-- the cells of a kind in a setting: those of its registered classes
abbrev pub cells_of : Setting → TableKind → ℕ → Bool
cells_of setting kind = is_kind_cell setting.classes.classes kind

-- the row of a place's cell
abbrev pub row_in : ℕ → Place → ℕ
row_in cell (Thread slot) = row_number (ThreadCell slot cell)
row_in cell (Account place) = row_number (AccountCell place cell)
row_in cell (User place) = row_number (UserCell place cell)
row_in cell (Host place) = row_number (HostCell place cell)
row_in cell Global = row_number (GlobalCell cell)
row_in cell Elsewhere = 0

abbrev pub elsewhere : Seat
elsewhere = record { cell = 0; place = Elsewhere }

-- a cell of the kind; one of another kind is elsewhere
abbrev pub seat_if : (ℕ → Bool) → ℕ → Place → Seat
seat_if is_cell cell place = cond (is_cell cell) (record { cell = cell; place = place }) elsewhere

abbrev pub seat_by : (ℕ → Bool) → Option Spot → Seat
seat_by is_cell (Some (ThreadCell slot cell)) = seat_if is_cell cell (Thread slot)
seat_by is_cell (Some (AccountCell place cell)) = seat_if is_cell cell (Account place)
seat_by is_cell (Some (UserCell place cell)) = seat_if is_cell cell (User place)
seat_by is_cell (Some (HostCell place cell)) = seat_if is_cell cell (Host place)
seat_by is_cell (Some (GlobalCell cell)) = seat_if is_cell cell Global
seat_by is_cell _ = elsewhere

-- whose cell a row is
abbrev pub seat_in : (ℕ → Bool) → ℕ → Seat
seat_in is_cell row = seat_by is_cell (place_at row)

-- the numbers of a kind's rows: threads first, then accounts, users, hosts, and the global cells
abbrev pub board : (ℕ → Bool) → Numbering
board is_cell = record {
  is_cell = is_cell;
  row = row_in;
  seat = seat_in is_cell;
  accounts = 2177;
  users = 4225;
  hosts = 6273;
  globals = 8321;
}

abbrev pub is_somewhere : Place → Bool
is_somewhere Elsewhere = false
is_somewhere place = true

-- the row is that of a cell of the kind
abbrev pub is_kind_row : (ℕ → Bool) → ℕ → Bool
is_kind_row is_cell row = is_somewhere (seat_in is_cell row).place

-- so many rows from this one on, but for those of other kinds
abbrev pub kind_rows_from : (ℕ → Bool) → ℕ → ℕ → List ℕ
kind_rows_from is_cell row zero = []
kind_rows_from is_cell row (suc more) =
    cond (is_kind_row is_cell row) (row ∷ []) [] ++ kind_rows_from is_cell (suc row) more

-- all rows of the kind, ascending: the rows of cells are 129 to 8384
unfoldable pub kind_rows : (ℕ → Bool) → List ℕ
kind_rows is_cell = kind_rows_from is_cell 129 8256

-- how many places there are
abbrev pub limits_of : Setting → Limits
limits_of setting = record {
  threads = setting.limits.thread_instances;
  accounts = setting.limits.accounts;
  users = setting.limits.users;
  hosts = setting.limits.hosts;
}
