-- What is kept of the words that actions write to info rows.
use Rattle.std.specs.Prelude.{ℕ, ◌≡◌, ◌==◌, ◌&&◌, Bool, List, [], Option, Some, None}
use Rattle.std.specs.BTreeMap.{get}
use Rattle.std.specs.declared.cmp.Ordering.{Ordering}
use Rattle.std.specs.Ordering.{nat_cmp, ordering_then}
use Rattle.pfs_model.specs.Contents.{Given}
use Rattle.pfs_check_made.specs.declared.tags.TagAt.{TagAt}
use Rattle.pfs_check_made.specs.declared.tags.TagWords.{TagWords}

abbrev pub tag_cmp : TagAt → TagAt → Ordering
tag_cmp one other = ordering_then (nat_cmp one.action other.action) (nat_cmp one.row other.row)

abbrev pub is_same_tag : TagAt → TagAt → Bool
is_same_tag one at = (one.action == at.action) && (one.row == at.row)

abbrev pub tag_at : ℕ → ℕ → TagAt
tag_at action row = record { action = action; row = row }

-- the words that are kept of an action and a row; none where it writes none
abbrev pub IsTagTold : List ℕ → Option (List ℕ) → Type 0
IsTagTold words None = words ≡ []
IsTagTold words (Some told) = told ≡ words

abbrev pub GivesTags : Given → TagWords → Type 0
GivesTags given tags = (action row : ℕ)
    → IsTagTold (given.info_words action row) (get tag_cmp tags.kept (tag_at action row))
