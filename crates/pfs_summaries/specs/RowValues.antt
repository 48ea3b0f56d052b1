-- The numbers of a row, as values.
use Rattle.std.specs.Prelude.{ℕ, ◌/◌, ◌==◌, nat_le, if◌then◌else◌, List, [], ◌∷◌, ◌++◌, map}
use Rattle.pfs_stat.specs.declared.Stat.{Stat}
use Rattle.pfs_stat.specs.Stat.{merge_of}
use Rattle.pfs_text.specs.declared.values.RowValue.{RowValue}
use Rattle.pfs_text.specs.declared.values.RowValue.TheVariants as value
use Rattle.pfs_summaries.specs.declared.numbers.Numbers.{Numbers}
use Rattle.pfs_summaries.specs.declared.numbers.Numbers.TheVariants.{Times, Statements, Transactions}

-- a least or greatest, 0 where nothing was timed
abbrev pub timed_number : Stat → ℕ → ℕ
timed_number stat number = if nat_le stat.min stat.max then number else 0

-- the sum divided by the count, rounded down
abbrev pub average : Stat → ℕ
average stat = if stat.count == 0 then 0 else stat.sum / stat.count

abbrev pub numbers_row : List ℕ → List RowValue
numbers_row numbers = map (λ number. value.Number number) numbers

-- a count and times: count, sum, least, average and greatest
unfoldable pub times_of : Stat → List RowValue
times_of stat = numbers_row (stat.count ∷ stat.sum ∷ timed_number stat stat.min ∷ average stat
    ∷ timed_number stat stat.max ∷ [])

-- a statement's sums: lock time, errors, warnings, and rows affected, sent and examined
unfoldable pub sums_of : Stat → List RowValue
sums_of stat = numbers_row (stat.lock ∷ stat.errors ∷ stat.warnings ∷ stat.affected ∷ stat.sent ∷ stat.examined ∷ [])

-- a row's numbers. Those of transactions are of both access modes in one, then of each
unfoldable pub values_of : Numbers → List RowValue
values_of (Times stat) = times_of stat
values_of (Statements stat) = times_of stat ++ sums_of stat
values_of (Transactions read_write read_only) =
    times_of (merge_of read_write read_only) ++ times_of read_write ++ times_of read_only

-- how many events a row counts
abbrev pub count_of : Numbers → ℕ
count_of (Times stat) = stat.count
count_of (Statements stat) = stat.count
count_of (Transactions read_write read_only) = (merge_of read_write read_only).count
