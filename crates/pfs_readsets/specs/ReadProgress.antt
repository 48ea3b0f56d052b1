-- How far a read set has come.
use Rattle.std.specs.Prelude.{◌≡◌, ℕ, ◌+◌, ◌<◌, ◌≤◌, Bool, true, false, if◌then◌else◌, Option, Some, None, List, [], ◌∷◌, ◌++◌, length, map, slice_index_or, slice_set}
use Rattle.pfs_rows.specs.declared.table.Table.{Table}
use Rattle.pfs_rows.specs.declared.table.Reading.{Reading}
use Rattle.pfs_readsets.specs.declared.target.Target.TheVariants.{Row, Word}
use Rattle.pfs_readsets.specs.declared.read_set.ReadSet.{ReadSet}
use Rattle.pfs_rows.specs.declared.table.Seen.{Seen}
use Rattle.pfs_readsets.specs.TablePlaces.{Scope, has_cell, reads_word}
use Rattle.pfs_readsets.specs.ReadSets.{target_of, is_whole, row_test, word_test, passing, reads_row, found_whole}

-- the read set of the table has come so far by these readings
pub record Reached (set : ReadSet) (scope : Scope) (shown : Table) (readings : List Reading) : Type 0 where
  pub table : set.table ≡ shown
  pub cells : (cell : ℕ) → cell < 64 → slice_index_or set.cells cell false ≡ has_cell scope shown cell
  pub classes : set.classes ≡ length scope.classes
  pub digests : set.digests ≡ scope.digests
  pub whole : (row : ℕ) → row < 129 → slice_index_or set.whole row false ≡ is_whole readings row
  pub flags : length set.whole ≡ 129
  pub row : set.row ≤ 14242
  pub word : set.word ≤ 160
  pub order : 0 < set.word → set.row ≡ 14242
  pub made : map target_of readings ≡ map Row (passing (row_test scope shown readings) 0 set.row)
      ++ map Word (passing (word_test scope shown readings) 0 set.word)

-- the tests of the rows and words that it still has to tell, by what it has noted
abbrev pub own_rows : ReadSet → ℕ → Bool
own_rows set = reads_row set.table (λ cell. slice_index_or set.cells cell false) set.digests
    (λ row. slice_index_or set.whole row false)

abbrev pub own_words : ReadSet → ℕ → Bool
own_words set = reads_word set.table set.classes (λ row. slice_index_or set.whole row false)

-- the first of so many numbers from one on that passes, or none
abbrev pub FirstPassing : (ℕ → Bool) → ℕ → ℕ → Option ℕ → Type 0
FirstPassing test from count None = passing test from count ≡ []
FirstPassing test from count (Some number) = (rest : List ℕ) × (passing test from count ≡ number ∷ rest)

-- it goes on behind this row, which was found as seen
abbrev pub behind_row : ReadSet → ℕ → Seen → ReadSet
behind_row set row seen = record set {
  whole = if found_whole seen then slice_set set.whole row true else set.whole;
  row = row + 1;
}

-- it goes on behind this word
abbrev pub behind_word : ReadSet → ℕ → ReadSet
behind_word set word = record set { row = 14242; word = word + 1 }
