-- A lock word is four times its row's version, and then the number of its state: 0 is free, 1 is dirty, 2 is
-- allocated. No lock word has 3.
use Rattle.std.specs.Prelude.{◌≡◌, ℕ, ◌+◌, ◌*◌, ◌/◌, ◌%◌, refl}
use Rattle.pfs_word.specs.declared.State.{State}
use Rattle.pfs_word.specs.declared.State.TheVariants.{Free, Dirty, Allocated}

abbrev pub number_of : State → ℕ
number_of Free = 0
number_of Dirty = 1
number_of Allocated = 2

-- the word of a row at this version and in this state
abbrev pub word_of : ℕ → State → ℕ
word_of version state = 4 * version + number_of state

abbrev pub version_of : ℕ → ℕ
version_of word = word / 4

abbrev pub IsIn : ℕ → State → Type 0
IsIn word state = word % 4 ≡ number_of state

-- Version 1, allocated, is the word 6. The word 5 is dirty at the same version, and it is not free
pub example_allocated : word_of 1 Allocated ≡ 6
example_allocated = refl

pub example_dirty : IsIn 5 Dirty × (version_of 5 ≡ 1)
example_dirty = (refl, refl)

pub example_not_free : ¬ (IsIn 5 Free)
example_not_free e = cc
