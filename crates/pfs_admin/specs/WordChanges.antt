-- Switch words that are changed one after another: of those from a first one on, each whose flags change.
use Rattle.std.specs.Prelude.{ℕ, zero, suc, ◌+◌, List, [], ◌++◌}
use Rattle.pfs_levels.specs.declared.answers.Word.{Word}
use Rattle.pfs_admin.specs.Works.{Flagging, flagging, flagged, word_at}

-- what each of the first n numbers gives, one after another
abbrev pub up_to : {X : Type 0} → (ℕ → List X) → ℕ → List X
up_to f zero = []
up_to f (suc n) = up_to f n ++ f n

-- what the n-th of them asks for: a change gives the flags behind it, by the word's number and its flags before
abbrev pub change_at : (ℕ → ℕ → ℕ) → List Word → ℕ → ℕ → List Flagging
change_at change words first n = flagging words (first + n) (change (first + n) (word_at words (first + n)).flags)

abbrev pub changed_up_to : (ℕ → ℕ → ℕ) → List Word → ℕ → ℕ → List Word
changed_up_to change words first zero = words
changed_up_to change words first (suc n) =
    flagged (changed_up_to change words first n) (first + n) (change (first + n) (word_at words (first + n)).flags)

-- what so many of them ask for, and the words behind that
unfoldable pub flags_changed : (ℕ → ℕ → ℕ) → List Word → ℕ → ℕ → List Flagging
flags_changed change words first count = up_to (change_at change words first) count

unfoldable pub words_changed : (ℕ → ℕ → ℕ) → List Word → ℕ → ℕ → List Word
words_changed change words first count = changed_up_to change words first count
