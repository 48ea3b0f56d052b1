-- What a read answers.
use Rattle.std.specs.Prelude.{◌≡◌, ◌≢◌, ◌⊎◌, ℕ, ◌+◌, ◌*◌, ◌/◌, ◌%◌, ◌^◌, ◌<◌, ◌≤◌, ◌==◌, ◌∷◌, if◌then◌else◌, List, length, refl}
use Rattle.pfs_board.specs.declared.answers.Seen.{Seen}
use Rattle.pfs_board.specs.declared.answers.Seen.TheVariants.{Whole, Free, Busy}
use Rattle.pfs_board.specs.declared.view.Stage.TheVariants.{Idle}
use Rattle.pfs_board.specs.declared.view.View.{View}
use Rattle.pfs_board.specs.Knowledge.{corner, root, IsWhole, IsAsLeft, turned, sighted, read_of, sight_of}

-- To a seat that knew v and knows w now, whose looks `read_looks` counts. A whole read is one more in its list, and
-- the other answers are one more sight of the row. Busy shows a dirty word, or an allocated one and then another, and
-- never comes to a seat that is alone, which finds each row as it saw or left it last.
abbrev pub IsSeenAs : View → ℕ → Seen → View → Type 0
IsSeenAs v r (Whole version content) w = ((corner v r).seen ≤ version) × (length content ≡ 16)
    × (w ≡ record (turned v r (sighted Idle (4 * version + 2))) {
      looks = w.looks;
      reads = read_of v r version content ∷ v.reads;
    }) × IsAsLeft v r (4 * version + 2)
IsSeenAs v r (Free word) w =
    (word % 4 ≡ 0) × ((corner v r).seen ≤ word / 4) × (w ≡ record (turned v r (sighted Idle word)) {
      looks = w.looks;
      sights = sight_of v r word word ∷ v.sights;
    }) × IsAsLeft v r word
IsSeenAs v r (Busy first second) w = (((first % 4 ≡ 1) × (second ≡ first)) ⊎ ((first % 4 ≡ 2) × (second ≢ first)))
    × ((corner v r).seen ≤ first / 4) × (first / 4 ≤ second / 4) × (second % 4 < 3) × (¬ (IsWhole v))
    × (w ≡ record (turned v r (sighted Idle second)) { looks = w.looks; sights = sight_of v r first second ∷ v.sights })

-- How often a read looks at the lock word. One look is the first one: it found the word that Free shows, or the dirty
-- word that Busy shows twice. Two looks are the first and the last. Of them Whole and Busy with two words show that
-- the first found the row allocated: the word 4 version + 2, or `first`. So Free comes exactly where the first look
-- found the row free
abbrev pub read_looks : Seen → ℕ
read_looks (Whole version content) = 2
read_looks (Free word) = 1
read_looks (Busy first second) = if first == second then 1 else 2

-- the lock word that a whole read found is one of 64 bits
abbrev pub IsNarrow : Seen → Type 0
IsNarrow (Whole version content) = 4 * version + 2 < 2 ^ 64
IsNarrow (Free word) = Unit {0}
IsNarrow (Busy first second) = Unit {0}

-- A read that the root makes while no other seat is out is never busy
pub example_never_busy : (start : List ℕ) (first second : ℕ) (w : View)
    → ¬ (IsSeenAs (root start) 1 (Busy first second) w)
example_never_busy start first second w a = a.4 refl
