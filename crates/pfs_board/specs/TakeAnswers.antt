-- What a take answers.
use Rattle.std.specs.Prelude.{◌≡◌, ◌≢◌, ◌⊎◌, ℕ, ◌/◌, ◌%◌, ◌<◌, ◌≤◌, ◌==◌, if◌then◌else◌, List, length, refl}
use Rattle.pfs_board.specs.declared.answers.Taken.{Taken}
use Rattle.pfs_board.specs.declared.answers.Taken.TheVariants.{Mine, Busy}
use Rattle.pfs_board.specs.declared.view.View.{View}
use Rattle.pfs_board.specs.Knowledge.{corner, root, IsWhole, IsAsLeft, took, missed}

-- To a seat that knew v and knows w now, but for how often it looked. The word is at no version below what it saw,
-- and was not dirty; the view keeps it and the content found. Busy shows a dirty word, or two different words of
-- which the first was not dirty: both are lock words at no version below what it saw, and a free row is not allocated
-- again at its version. It never comes to a seat that is alone, which finds each row as it saw or left it last.
abbrev pub IsTaken : View → ℕ → Taken → View → Type 0
IsTaken v r (Mine word content) w = (word % 4 < 3) × (word % 4 ≢ 1) × ((corner v r).seen ≤ word / 4)
    × (length content ≡ 16) × (w ≡ record (took v r word content) { looks = w.looks }) × IsAsLeft v r word
IsTaken v r (Busy first second) w = (((first % 4 ≡ 1) × (second ≡ first)) ⊎ ((first % 4 ≢ 1) × (second ≢ first)))
    × ((corner v r).seen ≤ second / 4) × (first / 4 ≤ second / 4) × (second % 4 < 3) × (¬ (IsWhole v))
    × (w ≡ record (missed v r first second) { looks = w.looks })
    × ((corner v r).seen ≤ first / 4) × (first % 4 < 3) × (first % 4 ≡ 0 → second % 4 ≡ 2 → first / 4 < second / 4)

-- How often a take looks at the lock word: by its load alone where that found the row dirty, which Busy shows twice,
-- else by the exchange too
abbrev pub take_looks : Taken → ℕ
take_looks (Mine word content) = 2
take_looks (Busy first second) = if first == second then 1 else 2

-- A take that the root makes while no other seat is out is never busy
pub example_never_busy : (start : List ℕ) (first second : ℕ) (w : View)
    → ¬ (IsTaken (root start) 1 (Busy first second) w)
example_never_busy start first second w a = a.4 refl

-- the word that a take began from
abbrev pub IsFrom : Taken → ℕ → Type 0
IsFrom (Mine word content) n = word ≡ n
IsFrom (Busy first second) n = (first ≡ n) × (second ≢ n)
