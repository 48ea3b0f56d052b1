-- Each row of a run as it is at first, at its place.
use Rattle.std.proofs.Common.{ℕ, zero, suc, ◌≡◌, ◌+◌, ◌<◌, length, refl, ap, ◌∙◌, sym, arith}
use Rattle.pfs_board.specs.declared.answers.Opening.{Opening}
use Rattle.pfs_board.specs.OpeningWords.{row_of}
use Rattle.pfs_board_opening.specs.FirstRows.{first_row, first_rows, rows_from}
use Rattle.pfs_board_store.specs.RootLaws.{IsFirstRow}

from_long : (n row : ℕ) → length (rows_from n row) ≡ n
unfolding rows_from
from_long zero row = refl
from_long (suc n) row = ap suc (from_long n (row + 1))

from_at : (n row at : ℕ) → at < n → row_of (rows_from n row) at ≡ first_row (row + at)
unfolding rows_from
from_at zero row at low = absurd (omega (arith, low))
from_at (suc n) row zero low =
    let e : row ≡ row + 0 = omega arith in
    ap first_row e
from_at (suc n) row (suc at) low =
    let e : row + 1 + at ≡ row + suc at = omega arith in
    from_at n (row + 1) at (omega (arith, low)) ∙ ap first_row e

pub first_long : length first_rows ≡ 14242
unfolding first_rows
first_long = from_long 14242 0

pub row_is : (at : ℕ) → at < 14242 → row_of first_rows at ≡ first_row at
unfolding first_rows
row_is at low =
    let e : 0 + at ≡ at = omega arith in
    from_at 14242 0 at low ∙ ap first_row e

pub first_at : (row : ℕ) → row < 14242 → IsFirstRow row (row_of first_rows row)
first_at row low = let e = row_is row low in (ap (λ (o : Opening). o.allocated) e, ap (λ (o : Opening). o.content) e)
