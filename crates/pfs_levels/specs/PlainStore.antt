-- A plain store is the fold of the calls so far, and each call's answer is what the fold gives at its place.
use Rattle.std.specs.Prelude.{ℕ, ◌≡◌, ◌+◌, ◌*◌, ◌<◌, ◌≤◌, ◌^◌, ◌==◌, nat_lt, ◌&&◌, ◌⊎◌, Bool, true, false, not, if◌then◌else◌, List, [], ◌∷◌, ◌++◌, length, slice_index, Option, Some, None}
use Rattle.std.specs.List.{slice_index_or}
use Rattle.pfs_board.specs.declared.view.Label.{Label}
use Rattle.pfs_rows.specs.declared.table.Seen.TheVariants.{Whole, Free}
use Rattle.pfs_rows.specs.declared.table.Seen.TheVariants as sees
use Rattle.pfs_stat.specs.declared.Stat.{Stat}
use Rattle.pfs_levels.specs.declared.answers.Added.TheVariants.{Counted, Held}
use Rattle.pfs_levels.specs.declared.answers.RingPut.TheVariants.{Done, Busy, Late}
use Rattle.pfs_levels.specs.declared.answers.Word.{Word}
use Rattle.pfs_levels.specs.declared.plain.Slot.{Slot}
use Rattle.pfs_levels.specs.Calls.{Call, Adds, Rings, Reads, Loads, Draws, Takes, Puts, Frees, Sets, Enters, Leaves, Meets, IsRow, IsCell, IsRing, label_in}
use Rattle.pfs_levels.specs.RowWords.{merged, opening_content}
use Rattle.pfs_levels.specs.JointCalls.{changes_of, count, Setting, sets_of, word_version, draws_of, drawn, opens_free}

-- what a call does to a row
pub data Effect : Type 0 where
  Merges : Stat → Effect
  Becomes : List ℕ → Effect
  Renews : Effect  -- published with the content that it has
  Holds : Effect
  Releases : Effect

pub record Op : Type 0 where
  pub row : ℕ
  pub effect : Effect

abbrev pub op : ℕ → Effect → Op
op row effect = record { row = row; effect = effect }

-- what a call does, and to which row
abbrev pub ops_by : Call → List Op
ops_by (Adds row amount (Counted r version)) = op r (Merges amount) ∷ []
ops_by (Adds row amount (Held r first second)) = []
ops_by (Rings row content (Done version)) = op row (Becomes content) ∷ []
ops_by (Rings row content (Busy first second)) = []
ops_by (Rings row content (Late ticket version)) = []
ops_by (Reads row seen) = []
ops_by (Loads at version flags) = []
ops_by (Draws kind ticket) = []
ops_by (Meets versions) = []
ops_by (Takes row version found) = op row Holds ∷ []
ops_by (Puts row content version) = op row (Becomes content) ∷ []
ops_by (Frees row version) = op row Releases ∷ []
ops_by (Sets at flags version) = []
ops_by (Enters label labels) = op 0 Holds ∷ []
ops_by Leaves = op 0 Renews ∷ []

unfoldable pub ops_of : List Call → List Op
ops_of [] = []
ops_of (call ∷ calls) = ops_by call ++ ops_of calls

abbrev pub slot : ℕ → Bool → Bool → List ℕ → Slot
slot version taken allocated content = record {
  version = version;
  taken = taken;
  allocated = allocated;
  content = content;
}

-- a row after something was done to it
abbrev pub slot_by : Effect → Slot → Slot
slot_by (Merges amount) s = slot (s.version + 1) false true (merged s.content amount)
slot_by (Becomes content) s = slot (s.version + 1) false true content
slot_by Renews s = slot (s.version + 1) false true s.content
slot_by Holds s = slot s.version true s.allocated s.content
slot_by Releases s = slot s.version false false s.content

abbrev pub opening_slot : ℕ → Slot
opening_slot row = slot 0 false (not (opens_free row)) (opening_content row)

-- a row after all that was done
unfoldable pub slot_after : List Op → ℕ → Slot
slot_after [] row = opening_slot row
slot_after (o ∷ os) row = if o.row == row then slot_by o.effect (slot_after os row) else slot_after os row

abbrev pub slot_at : List Slot → ℕ → Slot
slot_at slots row = slice_index_or slots row (slot 0 false false [])

-- a row in hand keeps the version at which it was taken
abbrev pub in_hand : Slot → Option ℕ
in_hand s = if s.taken then Some s.version else None

abbrev pub word : ℕ → ℕ → Word
word version flags = record { version = version; flags = flags }

abbrev pub word_at : List Word → ℕ → Word
word_at words at = slice_index_or words at (word 0 0)

-- a word after all sets
unfoldable pub word_after : List ℕ → List Setting → ℕ → Word
word_after flags [] at = word 0 (slice_index_or flags at 0)
word_after flags (s ∷ ss) at = if s.word == at then word s.version s.flags else word_after flags ss at

-- the labels of the actions that ended, and that of the one under way
unfoldable pub labels_after : List Call → List Label
labels_after [] = []
labels_after (Leaves ∷ calls) = labels_after calls ++ label_in calls ∷ []
labels_after (Adds row amount answer ∷ calls) = labels_after calls
labels_after (Rings row content answer ∷ calls) = labels_after calls
labels_after (Reads row seen ∷ calls) = labels_after calls
labels_after (Loads at version flags ∷ calls) = labels_after calls
labels_after (Draws kind ticket ∷ calls) = labels_after calls
labels_after (Meets versions ∷ calls) = labels_after calls
labels_after (Takes row version found ∷ calls) = labels_after calls
labels_after (Puts row content version ∷ calls) = labels_after calls
labels_after (Frees row version ∷ calls) = labels_after calls
labels_after (Sets at flags version ∷ calls) = labels_after calls
labels_after (Enters label labels ∷ calls) = labels_after calls

-- a long place that is written is free, or holds no greater ticket
abbrev pub IsFresh : ℕ → Slot → List ℕ → Type 0
IsFresh row s content = 10242 ≤ row → (s.allocated ≡ false) ⊎ (slice_index s.content 15 ≤ slice_index content 15)

-- the answer of a call is what stands there behind the calls before it: s is the slot of its row. A plain store holds
-- nothing back
abbrev pub Answers : List ℕ → List Call → Call → Type 0
Answers flags calls (Adds row amount (Counted r version)) =
    IsCell row × (r ≡ row) × ((slot_after (ops_of calls) row).taken ≡ false)
    × (version ≡ (slot_after (ops_of calls) row).version + 1)
Answers flags calls (Adds row amount (Held r first second)) = ⊥
Answers flags calls (Rings row content (Done version)) =
    IsRing row content × ((slot_after (ops_of calls) row).taken ≡ false)
    × (version ≡ (slot_after (ops_of calls) row).version + 1) × IsFresh row (slot_after (ops_of calls) row) content
Answers flags calls (Rings row content (Busy first second)) = ⊥
Answers flags calls (Rings row content (Late ticket version)) =
    IsRing row content × ((slot_after (ops_of calls) row).allocated ≡ true) × (10242 ≤ row)
    × (slice_index (slot_after (ops_of calls) row).content 15 ≡ ticket + 1) × (slice_index content 15 ≤ ticket)
    × (version ≡ (slot_after (ops_of calls) row).version)
Answers flags calls (Reads row (Whole version content)) =
    IsRow row × ((slot_after (ops_of calls) row).allocated ≡ true)
    × (version ≡ (slot_after (ops_of calls) row).version) × (content ≡ (slot_after (ops_of calls) row).content)
Answers flags calls (Reads row (Free w)) = IsRow row × ((slot_after (ops_of calls) row).allocated ≡ false)
    × (w ≡ 4 * (slot_after (ops_of calls) row).version)
Answers flags calls (Reads row (sees.Busy first second)) = ⊥
Answers flags calls (Loads at version found) = (at < 160) × (word version found ≡ word_after flags (sets_of calls) at)
Answers flags calls (Draws kind ticket) = (kind < 4) × (ticket ≡ drawn (draws_of calls) kind)
Answers flags calls (Meets versions) = ⊥
Answers flags calls (Takes row version found) = IsRow row × ((slot_after (ops_of calls) row).taken ≡ false)
    × (version ≡ (slot_after (ops_of calls) row).version) × (found ≡ (slot_after (ops_of calls) row).content)
Answers flags calls (Puts row content version) = IsRow row × ((slot_after (ops_of calls) row).taken ≡ true)
    × (version ≡ (slot_after (ops_of calls) row).version + 1)
Answers flags calls (Frees row version) = IsRow row × ((slot_after (ops_of calls) row).taken ≡ true)
    × (version ≡ (slot_after (ops_of calls) row).version)
Answers flags calls (Sets at to version) = (at < 160) × (version ≡ (word_after flags (sets_of calls) at).version + 1)
Answers flags calls (Enters label labels) =
    ((slot_after (ops_of calls) 0).taken ≡ false) × (labels ≡ labels_after calls)
Answers flags calls Leaves = (slot_after (ops_of calls) 0).taken ≡ true

abbrev pub AllAnswer : List ℕ → List Call → Type 0
AllAnswer flags [] = Unit {0}
AllAnswer flags (call ∷ calls) = Answers flags calls call × AllAnswer flags calls

-- the store stands where these calls lead
pub record IsAt (slots : List Slot) (words : List Word) (tickets : List ℕ) (flags : List ℕ) (calls : List Call) : Type
    0 where
  pub slots_are : (row : ℕ) → row < 14242 → slot_at slots row ≡ slot_after (ops_of calls) row
  pub words_are : (at : ℕ) → at < 160 → word_at words at ≡ word_after flags (sets_of calls) at
  pub tickets_are : (kind : ℕ) → kind < 4 → slice_index_or tickets kind 0 ≡ drawn (draws_of calls) kind
  pub answers : AllAnswer flags calls

-- every version and ticket, and what is left, stay in range
pub record HasRoom (left draws : ℕ) (slots : List Slot) (words : List Word) (tickets : List ℕ) : Type 0 where
  pub slots_wide : length slots ≡ 14242
  pub words_wide : length words ≡ 160
  pub tickets_wide : length tickets ≡ 4
  pub slots_few : (row : ℕ) → row < 14242 → (slot_at slots row).version + (if (slot_at slots row).taken then 1
      else 0) + left ≤ 2 ^ 47
  pub tickets_few : (kind : ℕ) → kind < 4 → slice_index_or tickets kind 0 + draws ≤ 2 ^ 47

abbrev pub is_put : Effect → Bool
is_put (Merges amount) = true
is_put (Becomes content) = true
is_put Renews = true
is_put Holds = false
is_put Releases = false

-- how often a row was published
unfoldable pub puts_in : List Op → ℕ → ℕ
puts_in [] row = 0
puts_in (o ∷ os) row = if (o.row == row) && is_put o.effect then puts_in os row + 1 else puts_in os row

abbrev pub content_by : Effect → List ℕ → List ℕ
content_by (Merges amount) here = merged here amount
content_by (Becomes content) here = content
content_by Renews here = here
content_by Holds here = here
content_by Releases here = here

-- the content of a row after so many publications
unfoldable pub content_at : List Op → ℕ → ℕ → List ℕ
content_at [] row k = opening_content row
content_at (o ∷ os) row k =
    if (o.row == row) && (is_put o.effect && nat_lt (puts_in os row) k) then content_by o.effect (content_at os row k)
    else content_at os row k

-- a call of a plain store names the next version, number or ticket, or the last one, by the calls before it
abbrev pub IsNext : List Call → Call → Type 0
IsNext calls (Adds row amount (Counted r version)) = (r ≡ row) × (version ≡ count (changes_of calls) row + 1)
IsNext calls (Adds row amount (Held r first second)) = ⊥
IsNext calls (Rings row content (Done version)) = version ≡ count (changes_of calls) row + 1
IsNext calls (Rings row content (Busy first second)) = ⊥
IsNext calls (Rings row content (Late ticket version)) =
    (slice_index content 15 ≤ ticket) × (version ≡ count (changes_of calls) row)
IsNext calls (Reads row (Whole version content)) = version ≡ count (changes_of calls) row
IsNext calls (Reads row (Free w)) = w ≡ 4 * count (changes_of calls) row
IsNext calls (Reads row (sees.Busy first second)) = ⊥
IsNext calls (Loads at version found) = version ≡ word_version (sets_of calls) at
IsNext calls (Draws kind ticket) = ticket ≡ drawn (draws_of calls) kind
IsNext calls (Meets versions) = ⊥
IsNext calls (Takes row version found) = version ≡ count (changes_of calls) row
IsNext calls (Puts row content version) = version ≡ count (changes_of calls) row + 1
IsNext calls (Frees row version) = version ≡ count (changes_of calls) row
IsNext calls (Sets at to version) = version ≡ word_version (sets_of calls) at + 1
IsNext calls (Enters label labels) = labels ≡ labels_after calls
IsNext calls Leaves = Unit {0}

abbrev pub AreNext : List Call → Type 0
AreNext [] = Unit {0}
AreNext (call ∷ calls) = IsNext calls call × AreNext calls
