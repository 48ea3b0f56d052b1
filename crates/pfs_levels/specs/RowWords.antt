-- What the sixteen words of a row hold at first, and after an addition.
use Rattle.std.specs.Prelude.{ℕ, nat_le, nat_lt, ◌&&◌, Bool, if◌then◌else◌, List, replicate}
use Rattle.pfs_stat.specs.declared.Stat.{Stat}
use Rattle.pfs_stat.specs.Stat.{zero_of, merge_of, words_of, stat_of_words}

-- the words of a cell with an amount merged into its numbers
abbrev pub merged : List ℕ → Stat → List ℕ
merged content amount = words_of (merge_of (stat_of_words content) amount)

-- the words of a cell that has counted nothing
abbrev pub zero_words : List ℕ
zero_words = words_of zero_of

-- a cell or a digest row
abbrev pub is_cell : ℕ → Bool
is_cell row = nat_le 129 row && nat_lt row 8450

abbrev pub opening_content : ℕ → List ℕ
opening_content row = if is_cell row then zero_words else replicate 16 0
