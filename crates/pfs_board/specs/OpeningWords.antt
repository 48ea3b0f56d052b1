-- The words with which a board opens.
use Rattle.std.specs.Prelude.{◌≡◌, ◌⊎◌, ℕ, ◌*◌, ◌<◌, List, [], ◌∷◌, ◌++◌, length, slice_index, slice_index_or, false, if◌then◌else◌}
use Rattle.pfs_board.specs.declared.answers.Opening.{Opening}
use Rattle.pfs_board.specs.History.{lock_at, word_at}

-- n rows of seventeen words, each free or allocated at version 0
pub record IsOpening (start : List ℕ) (n : ℕ) : Type 0 where
  pub long : length start ≡ 17 * n
  pub locks : (r : ℕ) → r < n → (slice_index start (lock_at r) ≡ 0) ⊎ (slice_index start (lock_at r) ≡ 2)

-- a row's lock word before its content
abbrev pub lock_of : Opening → ℕ
lock_of o = if o.allocated then 2 else 0

abbrev pub words_of : List Opening → List ℕ
words_of [] = []
words_of (o ∷ os) = lock_of o ∷ o.content ++ words_of os

-- row 0 is allocated
abbrev pub opening_words : List Opening → List ℕ
opening_words [] = []
opening_words (o ∷ os) = 2 ∷ o.content ++ words_of os

abbrev pub closed : Opening
closed = record { allocated = false; content = [] }

abbrev pub row_of : List Opening → ℕ → Opening
row_of rows r = slice_index_or rows r closed

abbrev pub AreWide : List Opening → Type 0
AreWide [] = Unit {0}
AreWide (o ∷ os) = (length o.content ≡ 16) × AreWide os

-- each row's lock word and content stand at their places, but that row 0 is allocated
pub record AreOpened (rows : List Opening) : Type 0 where
  pub first : slice_index (opening_words rows) (lock_at 0) ≡ 2
  pub locks : (r : ℕ) → 0 < r → r < length rows → slice_index (opening_words rows) (lock_at r) ≡ lock_of (row_of rows r)
  pub contents : (r i : ℕ) → r < length rows → i < 16
      → slice_index (opening_words rows) (word_at r i) ≡ slice_index (row_of rows r).content i

abbrev pub OpeningLaw : Type 0
OpeningLaw = (rows : List Opening) → 0 < length rows → AreWide rows → AreOpened rows
