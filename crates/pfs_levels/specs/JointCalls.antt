-- What the calls of all actors have in common, however the store is kept: one order of all changes, in which each
-- publication has the next version of its row, one of all sets, and one of all tickets.
use Rattle.std.specs.Prelude.{ℕ, ◌≡◌, ◌+◌, ◌*◌, ◌==◌, ◌≤◌, ◌<◌, ◌&&◌, ◌||◌, ◌⊎◌, Bool, true, false, not, if◌then◌else◌, List, [], ◌∷◌, ◌++◌, slice_index}
use Rattle.std.specs.List.{slice_index_or}
use Rattle.pfs_rows.specs.declared.table.Seen.TheVariants.{Whole, Free}
use Rattle.pfs_rows.specs.declared.table.Seen.TheVariants as sees
use Rattle.pfs_levels.specs.declared.answers.Added.TheVariants.{Counted, Held}
use Rattle.pfs_levels.specs.declared.answers.RingPut.TheVariants.{Done, Busy, Late}
use Rattle.pfs_levels.specs.Calls.{Call, Adds, Rings, Reads, Loads, Draws, Takes, Puts, Frees, Sets, Enters, Leaves, Meets}
use Rattle.pfs_levels.specs.RowWords.{merged, is_cell, opening_content}

-- the weights of items, added up. A list that is rearranged keeps each such sum, and only such a list does
unfoldable pub total : {A : Type 0} → (A → ℕ) → List A → ℕ
total h [] = 0
total h (x ∷ xs) = h x + total h xs

abbrev pub one_if : Bool → ℕ
one_if b = if b then 1 else 0

-- a publication by its row and the version that it made, or a release by its row and the version at which it was made
pub record At : Type 0 where
  pub row : ℕ
  pub version : ℕ
  pub puts : Bool

abbrev pub at_put : ℕ → ℕ → At
at_put row version = record { row = row; version = version; puts = true }

abbrev pub at_free : ℕ → ℕ → At
at_free row version = record { row = row; version = version; puts = false }

-- the publication or release that a call makes. Row 0, which beginning and ending actions change, isn't among these
abbrev pub changes_by : Call → List At
changes_by (Adds row amount (Counted r version)) = at_put r version ∷ []
changes_by (Adds row amount (Held r first second)) = []
changes_by (Rings row content (Done version)) = at_put row version ∷ []
changes_by (Rings row content (Busy first second)) = []
changes_by (Rings row content (Late ticket version)) = []
changes_by (Reads row seen) = []
changes_by (Loads at version flags) = []
changes_by (Draws kind ticket) = []
changes_by (Meets versions) = []
changes_by (Takes row version found) = []
changes_by (Puts row content version) = at_put row version ∷ []
changes_by (Frees row version) = at_free row version ∷ []
changes_by (Sets at flags version) = []
changes_by (Enters label labels) = []
changes_by Leaves = []

unfoldable pub changes_of : List Call → List At
changes_of [] = []
changes_of (call ∷ calls) = changes_by call ++ changes_of calls

-- how often a row was published
unfoldable pub count : List At → ℕ → ℕ
count [] row = 0
count (x ∷ xs) row = if (x.row == row) && x.puts then count xs row + 1 else count xs row

-- newest first: a publication makes the next version of its row, a release leaves it
abbrev pub IsCounted : List At → Type 0
IsCounted [] = Unit {0}
IsCounted (x ∷ xs) = (x.version ≡ (if x.puts then count xs x.row + 1 else count xs x.row)) × IsCounted xs

-- a set of a word, by the version that it made
pub record Setting : Type 0 where
  pub word : ℕ
  pub version : ℕ
  pub flags : ℕ

abbrev pub sets_by : Call → List Setting
sets_by (Sets at flags version) = record { word = at; version = version; flags = flags } ∷ []
sets_by (Adds row amount answer) = []
sets_by (Rings row content answer) = []
sets_by (Reads row seen) = []
sets_by (Loads at version flags) = []
sets_by (Draws kind ticket) = []
sets_by (Meets versions) = []
sets_by (Takes row version found) = []
sets_by (Puts row content version) = []
sets_by (Frees row version) = []
sets_by (Enters label labels) = []
sets_by Leaves = []

unfoldable pub sets_of : List Call → List Setting
sets_of [] = []
sets_of (call ∷ calls) = sets_by call ++ sets_of calls

-- how often a word was set
unfoldable pub word_version : List Setting → ℕ → ℕ
word_version [] at = 0
word_version (s ∷ ss) at = if s.word == at then word_version ss at + 1 else word_version ss at

-- the flags of a word at a version; at version 0 they are the opening ones
unfoldable pub flags_at : List ℕ → List Setting → ℕ → ℕ → ℕ
flags_at flags [] at k = slice_index_or flags at 0
flags_at flags (s ∷ ss) at k = if (s.word == at) && (s.version == k) then s.flags else flags_at flags ss at k

abbrev pub AreWordsCounted : List Setting → Type 0
AreWordsCounted [] = Unit {0}
AreWordsCounted (s ∷ ss) = (s.version ≡ word_version ss s.word + 1) × AreWordsCounted ss

-- a ticket that was drawn
pub record Draw : Type 0 where
  pub kind : ℕ
  pub ticket : ℕ

abbrev pub draws_by : Call → List Draw
draws_by (Draws kind ticket) = record { kind = kind; ticket = ticket } ∷ []
draws_by (Meets versions) = []
draws_by (Adds row amount answer) = []
draws_by (Rings row content answer) = []
draws_by (Reads row seen) = []
draws_by (Loads at version flags) = []
draws_by (Takes row version found) = []
draws_by (Puts row content version) = []
draws_by (Frees row version) = []
draws_by (Sets at flags version) = []
draws_by (Enters label labels) = []
draws_by Leaves = []

unfoldable pub draws_of : List Call → List Draw
draws_of [] = []
draws_of (call ∷ calls) = draws_by call ++ draws_of calls

-- how many tickets of a kind were drawn
unfoldable pub drawn : List Draw → ℕ → ℕ
drawn [] kind = 0
drawn (d ∷ ds) kind = if d.kind == kind then drawn ds kind + 1 else drawn ds kind

-- a kind's tickets are 0, 1 and so on, each once
abbrev pub AreDrawn : List Draw → Type 0
AreDrawn [] = Unit {0}
AreDrawn (d ∷ ds) = (d.ticket ≡ drawn ds d.kind) × AreDrawn ds

-- how often a row was found free or released at a version: by a release there, or since it opened so. Row 0, cells
-- and digest rows open allocated
abbrev pub opens_free : ℕ → Bool
opens_free row = not ((row == 0) || is_cell row)

abbrev pub frees_at : List At → ℕ → ℕ → ℕ
frees_at log row k = total (λ x. one_if ((x.row == row) && not x.puts && (x.version == k))) log
    + one_if ((k == 0) && opens_free row)

-- an event is written to a long place only where that was free, or held no greater ticket
abbrev pub IsNewer : ℕ → List ℕ → List ℕ → ℕ → Type 0
IsNewer row found put freed = 10242 ≤ row → (0 < freed) ⊎ (slice_index found 15 ≤ slice_index put 15)

-- what a call found and left, by the contents of the rows and the flags of the words at their versions
abbrev pub Agrees : List ℕ → (ℕ → ℕ → List ℕ) → List At → List Setting → Call → Type 0
Agrees flags content log sets (Adds row amount (Counted r k)) =
    (n : ℕ) × ((k ≡ n + 1) × (content r k ≡ merged (content r n) amount))
Agrees flags content log sets (Adds row amount (Held r first second)) = Unit {0}
Agrees flags content log sets (Rings row put (Done k)) =
    (n : ℕ) × ((k ≡ n + 1) × (content row k ≡ put) × IsNewer row (content row n) put (frees_at log row n))
Agrees flags content log sets (Rings row put (Busy first second)) = Unit {0}
Agrees flags content log sets (Rings row put (Late ticket k)) =
    (slice_index (content row k) 15 ≡ ticket + 1) × (k ≤ count log row)
Agrees flags content log sets (Reads row (Whole k found)) = (found ≡ content row k) × (k ≤ count log row)
Agrees flags content log sets (Reads row (Free w)) = (k : ℕ) × ((w ≡ 4 * k) × (0 < frees_at log row k))
Agrees flags content log sets (Reads row (sees.Busy first second)) = Unit {0}
Agrees flags content log sets (Loads at k found) = (found ≡ flags_at flags sets at k) × (k ≤ word_version sets at)
Agrees flags content log sets (Draws kind ticket) = Unit {0}
Agrees flags content log sets (Meets versions) =
    (at : ℕ) → at < 160 → slice_index versions at ≤ word_version sets at
Agrees flags content log sets (Takes row k found) = (found ≡ content row k) × (k ≤ count log row)
Agrees flags content log sets (Puts row put k) = content row k ≡ put
Agrees flags content log sets (Frees row k) = Unit {0}
Agrees flags content log sets (Sets at to k) = flags_at flags sets at k ≡ to
Agrees flags content log sets (Enters label labels) = Unit {0}
Agrees flags content log sets Leaves = Unit {0}

abbrev pub AllAgree : List ℕ → (ℕ → ℕ → List ℕ) → List At → List Setting → List Call → Type 0
AllAgree flags content log sets [] = Unit {0}
AllAgree flags content log sets (call ∷ calls) =
    Agrees flags content log sets call × AllAgree flags content log sets calls

-- the calls of all actors, one actor after another
unfoldable pub all_calls : List (List Call) → List Call
all_calls [] = []
all_calls (calls ∷ actors) = calls ++ all_calls actors

-- one order of all publications and releases, one of all sets and one of all tickets; the contents by row and version
pub record Joint (flags : List ℕ) (actors : List (List Call)) (content : ℕ → ℕ
    → List ℕ) (log : List At) (sets : List Setting) (draws : List Draw) : Type 0 where
  pub chain : IsCounted log
  pub words : AreWordsCounted sets
  pub tickets : AreDrawn draws
  pub opens : (row : ℕ) → 0 < row → row < 14242 → content row 0 ≡ opening_content row
  pub once : (h : At → ℕ) → total h (changes_of (all_calls actors)) ≡ total h log
  pub sets_once : (h : Setting → ℕ) → total h (sets_of (all_calls actors)) ≡ total h sets
  pub draws_once : (h : Draw → ℕ) → total h (draws_of (all_calls actors)) ≡ total h draws
  pub agrees : AllAgree flags content log sets (all_calls actors)
