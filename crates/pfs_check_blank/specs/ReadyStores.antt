-- A store that finds everything, ready for an action.
use Rattle.std.specs.Prelude.{ℕ, ◌≡◌, ◌<◌, List, Some, None}
use Rattle.pfs_levels.specs.declared.answers.Word.{Word}
use Rattle.pfs_check_blank.specs.BlankStores.{hand_at}
use Rattle.pfs_check_blank.specs.declared.blank.Blank.{Blank}

-- an administration that knows the words so may ask it: it lends these words, and no row but row 0 is in hand
pub record IsReady (words : List Word) (blank : Blank) : Type 0 where
  pub alone : (row : ℕ) → 0 < row → hand_at blank.taken.items row ≡ None
  pub lent : Some blank.words.items ≡ Some words
