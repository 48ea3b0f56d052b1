-- Which row a place is, and which place a row.
use Rattle.std.specs.Prelude.{ℕ, ◌+◌, ◌-◌, ◌*◌, ◌/◌, ◌%◌, ◌<◌, nat_lt, if◌then◌else◌, Option, Some, None}
use Rattle.pfs_rows.specs.declared.place.Place.{Place}
use Rattle.pfs_rows.specs.declared.place.Place.TheVariants.{Admin, ThreadInfo, AccountInfo, UserInfo, HostInfo, ThreadCell, AccountCell, UserCell, HostCell, GlobalCell, DigestNull, Digest, Ring, Long}

-- the numbers that a place may have
abbrev pub IsPlace : Place → Type 0
IsPlace Admin = Unit {0}
IsPlace (ThreadInfo thread) = thread < 32
IsPlace (AccountInfo account) = account < 32
IsPlace (UserInfo user) = user < 32
IsPlace (HostInfo host) = host < 32
IsPlace (ThreadCell thread cell) = (thread < 32) × (cell < 64)
IsPlace (AccountCell account cell) = (account < 32) × (cell < 64)
IsPlace (UserCell user cell) = (user < 32) × (cell < 64)
IsPlace (HostCell host cell) = (host < 32) × (cell < 64)
IsPlace (GlobalCell cell) = cell < 64
IsPlace DigestNull = Unit {0}
IsPlace (Digest digest) = digest < 64
IsPlace (Ring thread place) = (thread < 32) × (place < 56)
IsPlace (Long kind place) = (kind < 4) × (place < 1000)

-- the row of a place
abbrev pub row_number : Place → ℕ
row_number Admin = 0
row_number (ThreadInfo thread) = 1 + thread
row_number (AccountInfo account) = 33 + account
row_number (UserInfo user) = 65 + user
row_number (HostInfo host) = 97 + host
row_number (ThreadCell thread cell) = 129 + 64 * thread + cell
row_number (AccountCell account cell) = 2177 + 64 * account + cell
row_number (UserCell user cell) = 4225 + 64 * user + cell
row_number (HostCell host cell) = 6273 + 64 * host + cell
row_number (GlobalCell cell) = 8321 + cell
row_number DigestNull = 8385
row_number (Digest digest) = 8386 + digest
row_number (Ring thread place) = 8450 + 56 * thread + place
row_number (Long kind place) = 10242 + 1000 * kind + place

-- the place of a row, or none past the last
abbrev pub place_at : ℕ → Option Place
place_at row =
    if nat_lt row 1 then Some Admin else
    if nat_lt row 33 then Some (ThreadInfo (row - 1)) else
    if nat_lt row 65 then Some (AccountInfo (row - 33)) else
    if nat_lt row 97 then Some (UserInfo (row - 65)) else
    if nat_lt row 129 then Some (HostInfo (row - 97)) else
    if nat_lt row 2177 then Some (ThreadCell ((row - 129) / 64) ((row - 129) % 64)) else
    if nat_lt row 4225 then Some (AccountCell ((row - 2177) / 64) ((row - 2177) % 64)) else
    if nat_lt row 6273 then Some (UserCell ((row - 4225) / 64) ((row - 4225) % 64)) else
    if nat_lt row 8321 then Some (HostCell ((row - 6273) / 64) ((row - 6273) % 64)) else
    if nat_lt row 8385 then Some (GlobalCell (row - 8321)) else
    if nat_lt row 8386 then Some DigestNull else
    if nat_lt row 8450 then Some (Digest (row - 8386)) else
    if nat_lt row 10242 then Some (Ring ((row - 8450) / 56) ((row - 8450) % 56)) else
    if nat_lt row 14242 then Some (Long ((row - 10242) / 1000) ((row - 10242) % 1000)) else
    None
