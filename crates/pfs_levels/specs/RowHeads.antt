-- How a plain store keeps its rows: a head for each, and the contents that were published.
use Rattle.std.specs.Prelude.{ℕ, ◌≡◌, ◌<◌, ◌≤◌, ◌+◌, false, List, [], ◌∷◌, ◌++◌, length, replicate, slice_set}
use Rattle.std.specs.List.{slice_index_or, sum_by}
use Rattle.pfs_levels.specs.declared.plain.Slot.{Slot}
use Rattle.pfs_levels.specs.declared.slots.Head.{Head}
use Rattle.pfs_levels.specs.declared.slots.Home.{Home}
use Rattle.pfs_levels.specs.declared.slots.Home.TheVariants as home
use Rattle.pfs_levels.specs.declared.slots.Kept.{Kept}
use Rattle.pfs_levels.specs.RowWords.{zero_words}
use Rattle.pfs_levels.specs.PlainStore.{slot}

abbrev pub head_at : List Head → ℕ → Head
head_at heads row =
    slice_index_or heads row (record { version = 0; taken = false; allocated = false; home = home.Zeros })

abbrev pub kept_at : List Kept → ℕ → Kept
kept_at contents place = slice_index_or contents place (record { row = 0; words = [] })

-- the content that has this home
abbrev pub words_at : List Kept → Home → List ℕ
words_at contents home.ZeroStat = zero_words
words_at contents home.Zeros = replicate 16 0
words_at contents (home.At place) = (kept_at contents place).words

-- the row of a head
abbrev pub slot_of : List Kept → Head → Slot
slot_of contents head = slot head.version head.taken head.allocated (words_at contents head.home)

-- a content at a place is the row's own, so no two rows have one place
abbrev pub IsOwn : List Kept → ℕ → Home → Type 0
IsOwn contents row home.ZeroStat = Unit {0}
IsOwn contents row home.Zeros = Unit {0}
IsOwn contents row (home.At place) = (place < length contents) × ((kept_at contents place).row ≡ row)

-- 1 where the content has no place yet
abbrev pub to_place : Home → ℕ
to_place home.ZeroStat = 1
to_place home.Zeros = 1
to_place (home.At place) = 0

abbrev pub head_to_place : Head → ℕ
head_to_place head = to_place head.home

-- every row has a head, and room for its content
pub record AreKept (heads : List Head) (contents : List Kept) (capacity : ℕ) : Type 0 where
  pub wide : length heads ≡ 14242
  pub own : (row : ℕ) → row < 14242 → IsOwn contents row (head_at heads row).home
  pub placed : length contents + sum_by head_to_place heads ≡ 14242
  pub room : 14242 ≤ capacity

-- the contents with one more, or with that in the place of the one that is there
abbrev pub contents_with : List Kept → Home → Kept → List Kept
contents_with contents home.ZeroStat content = contents ++ content ∷ []
contents_with contents home.Zeros content = contents ++ content ∷ []
contents_with contents (home.At place) content = slice_set contents place content

-- where it is then
abbrev pub place_with : List Kept → Home → ℕ
place_with contents home.ZeroStat = length contents
place_with contents home.Zeros = length contents
place_with contents (home.At place) = place
