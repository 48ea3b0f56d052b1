-- What the calls of all actors have in common in their order: the numbers of actions, floors, and the causes of what
-- was held back.
use Rattle.std.specs.Prelude.{ℕ, ◌≡◌, ◌≢◌, ◌⊎◌, ◌+◌, ◌-◌, ◌/◌, ◌%◌, ◌==◌, ◌<◌, ◌≤◌, nat_lt, nat_le, Bool, true, false, not, ◌&&◌, if◌then◌else◌, List, [], ◌∷◌, ◌++◌, length, slice_index}
use Rattle.std.specs.List.{slice_index_or}
use Rattle.pfs_board.specs.declared.view.Label.{Label}
use Rattle.pfs_board.specs.Knowledge.{no_label}
use Rattle.pfs_rows.specs.declared.table.Seen.TheVariants.{Whole, Free}
use Rattle.pfs_rows.specs.declared.table.Seen.TheVariants as sees
use Rattle.pfs_levels.specs.declared.answers.Added.TheVariants.{Counted, Held}
use Rattle.pfs_levels.specs.declared.answers.RingPut.TheVariants.{Done, Busy, Late}
use Rattle.pfs_levels.specs.Calls.{Call, Adds, Rings, Reads, Loads, Draws, Takes, Puts, Frees, Sets, Enters, Leaves, Meets, action_in, after_in, label_in}
use Rattle.pfs_levels.specs.JointCalls.{total, one_if}

-- a change of a row, or a set of a word: the version that it made, or at which it released; its action or 0; and the
-- newest action that its actor knew as ended. An action publishes row 0 as it ends, so its number is that version
pub record Mark : Type 0 where
  pub row : ℕ
  pub version : ℕ
  pub puts : Bool
  pub action : ℕ
  pub after : ℕ

abbrev pub mark : ℕ → ℕ → Bool → ℕ → ℕ → Mark
mark row version puts action after = record {
  row = row;
  version = version;
  puts = puts;
  action = action;
  after = after;
}

-- the marks of a call, in an action and after one
abbrev pub marks_by : ℕ → ℕ → Call → List Mark
marks_by action after (Adds row amount (Counted r version)) = mark r version true action after ∷ []
marks_by action after (Adds row amount (Held r first second)) = []
marks_by action after (Rings row content (Done version)) = mark row version true action after ∷ []
marks_by action after (Rings row content (Busy first second)) = []
marks_by action after (Rings row content (Late ticket version)) = []
marks_by action after (Reads row seen) = []
marks_by action after (Loads at version flags) = []
marks_by action after (Draws kind ticket) = []
marks_by action after (Meets versions) = []
marks_by action after (Takes row version found) = []
marks_by action after (Puts row content version) = mark row version true action after ∷ []
marks_by action after (Frees row version) = mark row version false action after ∷ []
marks_by action after (Sets at flags version) = []
marks_by action after (Enters label labels) = []
marks_by action after Leaves = mark 0 action true action after ∷ []

unfoldable pub marks_of : List Call → List Mark
marks_of [] = []
marks_of (call ∷ calls) = marks_by (action_in calls) (after_in calls) call ++ marks_of calls

unfoldable pub all_marks : List (List Call) → List Mark
all_marks [] = []
all_marks (calls ∷ actors) = marks_of calls ++ all_marks actors

-- the same of the sets of words
abbrev pub word_marks_by : ℕ → ℕ → Call → List Mark
word_marks_by action after (Adds row amount answer) = []
word_marks_by action after (Rings row content answer) = []
word_marks_by action after (Reads row seen) = []
word_marks_by action after (Loads at version flags) = []
word_marks_by action after (Draws kind ticket) = []
word_marks_by action after (Meets versions) = []
word_marks_by action after (Takes row version found) = []
word_marks_by action after (Puts row content version) = []
word_marks_by action after (Frees row version) = []
word_marks_by action after (Sets at flags version) = mark at version true action after ∷ []
word_marks_by action after (Enters label labels) = []
word_marks_by action after Leaves = []

unfoldable pub word_marks_of : List Call → List Mark
word_marks_of [] = []
word_marks_of (call ∷ calls) = word_marks_by (action_in calls) (after_in calls) call ++ word_marks_of calls

unfoldable pub all_word_marks : List (List Call) → List Mark
all_word_marks [] = []
all_word_marks (calls ∷ actors) = word_marks_of calls ++ all_word_marks actors

-- how often a row was published, row 0 by each action that ended
unfoldable pub marked : List Mark → ℕ → ℕ
marked [] row = 0
marked (x ∷ xs) row = if (x.row == row) && x.puts then marked xs row + 1 else marked xs row

-- newest first: a publication makes the next version, a release leaves it. Of row 0 this says that the actions'
-- numbers are 1, 2 and so on
abbrev pub AreMarked : List Mark → Type 0
AreMarked [] = Unit {0}
AreMarked (x ∷ xs) = (x.version ≡ (if x.puts then marked xs x.row + 1 else marked xs x.row)) × AreMarked xs

-- a change of the same row by an action with a greater number, where this one is an action's
abbrev pub falls : Mark → Mark → Bool
falls x p = (p.row == x.row) && nat_lt 0 x.action && nat_lt x.action p.action

-- newest first: along a row the numbers of the actions never fall
abbrev pub AreOrdered : List Mark → Type 0
AreOrdered [] = Unit {0}
AreOrdered (x ∷ xs) = (total (λ p. one_if (falls x p)) xs ≡ 0) × AreOrdered xs

-- a change by an action up to `after`
abbrev pub is_past : ℕ → ℕ → Mark → Bool
is_past row after p = (p.row == row) && nat_lt 0 p.action && nat_le p.action after

-- how many of them are above the version, or reach it
abbrev pub above : List Mark → ℕ → ℕ → ℕ → ℕ
above log row version after = total (λ p. one_if (is_past row after p && nat_lt version p.version)) log

abbrev pub reaching : List Mark → ℕ → ℕ → ℕ → ℕ
reaching log row version after = total (λ p. one_if (is_past row after p && nat_le version p.version)) log

-- how many releases of them reach it
abbrev pub freed : List Mark → ℕ → ℕ → ℕ → ℕ
freed log row version after = total (λ p. one_if (is_past row after p && not p.puts && nat_le version p.version)) log

-- by the changes and sets of the actions that a call's actor knew as ended: a change is above them; a take, a read
-- of a whole or a free row, a release and what an event came too late for are not below them, a whole read is above
-- each release; a set is above those of its word, and a load is not below them
abbrev pub IsFloored : List Mark → List Mark → ℕ → Call → Type 0
IsFloored log words after (Adds row amount (Counted r k)) = reaching log r k after ≡ 0
IsFloored log words after (Adds row amount (Held r first second)) = Unit {0}
IsFloored log words after (Rings row content (Done k)) = reaching log row k after ≡ 0
IsFloored log words after (Rings row content (Busy first second)) = Unit {0}
IsFloored log words after (Rings row content (Late ticket k)) = above log row k after ≡ 0
IsFloored log words after (Reads row (Whole k found)) = (above log row k after ≡ 0) × (freed log row k after ≡ 0)
IsFloored log words after (Reads row (Free w)) = above log row (w / 4) after ≡ 0
IsFloored log words after (Reads row (sees.Busy first second)) = Unit {0}
IsFloored log words after (Loads at k flags) = above words at k after ≡ 0
IsFloored log words after (Draws kind ticket) = Unit {0}
IsFloored log words after (Meets versions) =
    (at : ℕ) → at < 160 → above words at (slice_index versions at) after ≡ 0
IsFloored log words after (Takes row k found) = above log row k after ≡ 0
IsFloored log words after (Puts row content k) = reaching log row k after ≡ 0
IsFloored log words after (Frees row k) = above log row k after ≡ 0
IsFloored log words after (Sets at flags k) = reaching words at k after ≡ 0
IsFloored log words after (Enters label labels) = Unit {0}
IsFloored log words after Leaves = Unit {0}

abbrev pub AreFloored : List Mark → List Mark → List Call → Type 0
AreFloored log words [] = Unit {0}
AreFloored log words (call ∷ calls) = IsFloored log words (after_in calls) call × AreFloored log words calls

-- the greatest version of a row that the actor's calls named, the second word of what was held back among them; of a
-- word; and one more than the greatest ticket of a kind. In calls that rise the newest is the greatest
abbrev pub top_in : List Call → ℕ → ℕ
top_in [] row = 0
top_in (Adds at amount (Counted r version) ∷ calls) row = if r == row then version else top_in calls row
top_in (Adds at amount (Held r first second) ∷ calls) row = if r == row then second / 4 else top_in calls row
top_in (Rings at content (Done version) ∷ calls) row = if at == row then version else top_in calls row
top_in (Rings at content (Busy first second) ∷ calls) row = if at == row then second / 4 else top_in calls row
top_in (Rings at content (Late ticket version) ∷ calls) row = if at == row then version else top_in calls row
top_in (Reads at (Whole version found) ∷ calls) row = if at == row then version else top_in calls row
top_in (Reads at (Free w) ∷ calls) row = if at == row then w / 4 else top_in calls row
top_in (Reads at (sees.Busy first second) ∷ calls) row = if at == row then second / 4 else top_in calls row
top_in (Loads at version flags ∷ calls) row = top_in calls row
top_in (Draws kind ticket ∷ calls) row = top_in calls row
top_in (Meets versions ∷ calls) row = top_in calls row
top_in (Takes at version found ∷ calls) row = if at == row then version else top_in calls row
top_in (Puts at content version ∷ calls) row = if at == row then version else top_in calls row
top_in (Frees at version ∷ calls) row = if at == row then version else top_in calls row
top_in (Sets at flags version ∷ calls) row = top_in calls row
top_in (Enters label labels ∷ calls) row = if 0 == row then length labels else top_in calls row
top_in (Leaves ∷ calls) row = if 0 == row then action_in calls else top_in calls row

abbrev pub top_word : List Call → ℕ → ℕ
top_word [] word = 0
top_word (Adds row amount answer ∷ calls) word = top_word calls word
top_word (Rings row content answer ∷ calls) word = top_word calls word
top_word (Reads row seen ∷ calls) word = top_word calls word
top_word (Loads at version flags ∷ calls) word = if at == word then version else top_word calls word
top_word (Draws kind ticket ∷ calls) word = top_word calls word
top_word (Meets versions ∷ calls) word = slice_index versions word
top_word (Takes row version found ∷ calls) word = top_word calls word
top_word (Puts row content version ∷ calls) word = top_word calls word
top_word (Frees row version ∷ calls) word = top_word calls word
top_word (Sets at flags version ∷ calls) word = if at == word then version else top_word calls word
top_word (Enters label labels ∷ calls) word = top_word calls word
top_word (Leaves ∷ calls) word = top_word calls word

abbrev pub top_ticket : List Call → ℕ → ℕ
top_ticket [] kind = 0
top_ticket (Adds row amount answer ∷ calls) kind = top_ticket calls kind
top_ticket (Rings row content answer ∷ calls) kind = top_ticket calls kind
top_ticket (Reads row seen ∷ calls) kind = top_ticket calls kind
top_ticket (Loads at version flags ∷ calls) kind = top_ticket calls kind
top_ticket (Draws k ticket ∷ calls) kind = if k == kind then ticket + 1 else top_ticket calls kind
top_ticket (Meets versions ∷ calls) kind = top_ticket calls kind
top_ticket (Takes row version found ∷ calls) kind = top_ticket calls kind
top_ticket (Puts row content version ∷ calls) kind = top_ticket calls kind
top_ticket (Frees row version ∷ calls) kind = top_ticket calls kind
top_ticket (Sets at flags version ∷ calls) kind = top_ticket calls kind
top_ticket (Enters label labels ∷ calls) kind = top_ticket calls kind
top_ticket (Leaves ∷ calls) kind = top_ticket calls kind

-- no call is below an earlier one of its row or word, and a change or a set is above it; the tickets of a kind rise
abbrev pub IsRising : List Call → Call → Type 0
IsRising calls (Adds row amount (Counted r version)) = top_in calls r < version
IsRising calls (Adds row amount (Held r first second)) = (top_in calls r ≤ first / 4) × (first / 4 ≤ second / 4)
IsRising calls (Rings row content (Done version)) = top_in calls row < version
IsRising calls (Rings row content (Busy first second)) = (top_in calls row ≤ first / 4) × (first / 4 ≤ second / 4)
IsRising calls (Rings row content (Late ticket version)) = top_in calls row ≤ version
IsRising calls (Reads row (Whole version found)) = top_in calls row ≤ version
IsRising calls (Reads row (Free w)) = top_in calls row ≤ w / 4
IsRising calls (Reads row (sees.Busy first second)) = (top_in calls row ≤ first / 4) × (first / 4 ≤ second / 4)
IsRising calls (Loads at version flags) = top_word calls at ≤ version
IsRising calls (Draws kind ticket) = top_ticket calls kind ≤ ticket
IsRising calls (Meets versions) = (at : ℕ) → at < 160 → top_word calls at ≤ slice_index versions at
IsRising calls (Takes row version found) = top_in calls row ≤ version
IsRising calls (Puts row content version) = top_in calls row < version
IsRising calls (Frees row version) = top_in calls row ≤ version
IsRising calls (Sets at flags version) = top_word calls at < version
IsRising calls (Enters label labels) = top_in calls 0 ≤ length labels
IsRising calls Leaves = top_in calls 0 < action_in calls

abbrev pub AreRising : List Call → Type 0
AreRising [] = Unit {0}
AreRising (call ∷ calls) = IsRising calls call × AreRising calls

-- a call names a row, a word or a kind of tickets that there is
abbrev pub IsThere : Call → Type 0
IsThere (Adds row amount answer) = row < 14242
IsThere (Rings row content answer) = row < 14242
IsThere (Reads row seen) = row < 14242
IsThere (Loads at version flags) = at < 160
IsThere (Draws kind ticket) = kind < 4
IsThere (Meets versions) = Unit {0}
IsThere (Takes row version found) = row < 14242
IsThere (Puts row content version) = row < 14242
IsThere (Frees row version) = row < 14242
IsThere (Sets at flags version) = at < 160
IsThere (Enters label labels) = Unit {0}
IsThere Leaves = Unit {0}

abbrev pub AreThere : List Call → Type 0
AreThere [] = Unit {0}
AreThere (call ∷ calls) = IsThere call × AreThere calls

-- a load behind a meet with the writer names no version of its word below the one that was met
abbrev pub LoadsAfterMeet : Type 0
LoadsAfterMeet = (more calls : List Call) (versions : List ℕ) (at version flags : ℕ) → at < 160
    → AreRising (Loads at version flags ∷ (more ++ Meets versions ∷ calls)) → slice_index versions at ≤ version

abbrev pub is_between : ℕ → ℕ → ℕ → Mark → Bool
is_between row low high p = (p.row == row) && p.puts && nat_lt low p.version && nat_le p.version high

-- how often a row was published at a version, or released at it
abbrev pub published : List Mark → ℕ → ℕ → ℕ
published log row version = total (λ p. one_if ((p.row == row) && p.puts && (p.version == version))) log

abbrev pub released : List Mark → ℕ → ℕ → ℕ
released log row version = total (λ p. one_if ((p.row == row) && not p.puts && (p.version == version))) log

-- a row that was dirty at the version was in another actor's hand, who published it next, or it was released there by
-- whomever
abbrev pub IsOthers : List Mark → List Mark → ℕ → ℕ → Type 0
IsOthers log own row version = ((published own row (version + 1) ≡ 0) × (0 < published log row (version + 1)))
    ⊎ (0 < released log row version)

-- why a row was another's. Both are lock words. The first is dirty and the second the same; or they differ, and the
-- second is at no lower version, and not allocated at the same one. The second is at a version that the row had, the
-- first not below what actions that ended gave. The actor itself made no change above the first up to the second. Who
-- had a dirty one in hand was another, and a second that is free was released
pub record IsCaused (log own : List Mark) (row first second after : ℕ) : Type 0 where
  pub states : (first % 4 < 3) × (second % 4 < 3)
  pub order : ((first % 4 ≡ 1) × (second ≡ first))
      ⊎ ((second ≢ first) × (first / 4 ≤ second / 4) × (first / 4 ≡ second / 4 → second % 4 ≢ 2))
  pub known : second / 4 ≤ marked log row
  pub floor : above log row (first / 4) after ≡ 0
  pub between : total (λ p. one_if (is_between row (first / 4) (second / 4) p)) own ≡ 0
  pub first_dirty : first % 4 ≡ 1 → IsOthers log own row (first / 4)
  pub second_dirty : second % 4 ≡ 1 → IsOthers log own row (second / 4)
  pub second_free : second % 4 ≡ 0 → 0 < released log row (second / 4)

-- what was held back has its cause: by all changes, and those of the actor itself. That of an event that came late is
-- the content at the version that its call names
abbrev pub HasCause : List Mark → List Mark → List Call → Call → Type 0
HasCause log own calls (Adds row amount (Held r first second)) =
    IsCaused log own r first second (after_in calls)
HasCause log own calls (Adds row amount (Counted r version)) = Unit {0}
HasCause log own calls (Rings row put (Busy first second)) = IsCaused log own row first second (after_in calls)
HasCause log own calls (Rings row put (Late ticket version)) = Unit {0}
HasCause log own calls (Rings row put (Done version)) = Unit {0}
HasCause log own calls (Reads row (sees.Busy first second)) = IsCaused log own row first second (after_in calls)
HasCause log own calls (Reads row (Whole version found)) = Unit {0}
HasCause log own calls (Reads row (Free w)) = Unit {0}
HasCause log own calls (Loads at version flags) = Unit {0}
HasCause log own calls (Draws kind ticket) = Unit {0}
HasCause log own calls (Meets versions) = Unit {0}
HasCause log own calls (Takes row version found) = Unit {0}
HasCause log own calls (Puts row put version) = Unit {0}
HasCause log own calls (Frees row version) = Unit {0}
HasCause log own calls (Sets at flags version) = Unit {0}
HasCause log own calls (Enters label labels) = Unit {0}
HasCause log own calls Leaves = Unit {0}

abbrev pub AreCaused : List Mark → List Mark → List Call → Type 0
AreCaused log own [] = Unit {0}
AreCaused log own (call ∷ calls) = HasCause log own calls call × AreCaused log own calls

-- what an action found are the first labels of all, and its own label stands at its number
abbrev pub IsNamed : List Label → List Call → Call → Type 0
IsNamed all calls (Adds row amount answer) = Unit {0}
IsNamed all calls (Rings row content answer) = Unit {0}
IsNamed all calls (Reads row seen) = Unit {0}
IsNamed all calls (Loads at version flags) = Unit {0}
IsNamed all calls (Draws kind ticket) = Unit {0}
IsNamed all calls (Meets versions) = Unit {0}
IsNamed all calls (Takes row version found) = Unit {0}
IsNamed all calls (Puts row content version) = Unit {0}
IsNamed all calls (Frees row version) = Unit {0}
IsNamed all calls (Sets at flags version) = Unit {0}
IsNamed all calls (Enters label labels) = (later : List Label) × (all ≡ labels ++ later)
IsNamed all calls Leaves = slice_index_or all (action_in calls - 1) no_label ≡ label_in calls

abbrev pub AreNamed : List Label → List Call → Type 0
AreNamed all [] = Unit {0}
AreNamed all (call ∷ calls) = IsNamed all calls call × AreNamed all calls

abbrev pub AllCalls : (List Call → Type 0) → List (List Call) → Type 0
AllCalls P [] = Unit {0}
AllCalls P (calls ∷ actors) = P calls × AllCalls P actors

-- one order of all changes with their actions, one of all sets, and the labels of the actions by number
pub record Order (actors : List (List Call)) (log words : List Mark) (labels : List Label) : Type 0 where
  pub chain : AreMarked log
  pub word_chain : AreMarked words
  pub ordered : AreOrdered log
  pub once : (h : Mark → ℕ) → total h (all_marks actors) ≡ total h log
  pub words_once : (h : Mark → ℕ) → total h (all_word_marks actors) ≡ total h words
  pub ended : length labels ≡ marked log 0
  pub floored : AllCalls (AreFloored log words) actors
  pub rising : AllCalls AreRising actors
  pub there : AllCalls AreThere actors
  pub caused : AllCalls (λ calls. AreCaused log (marks_of calls) calls) actors
  pub named : AllCalls (AreNamed labels) actors
