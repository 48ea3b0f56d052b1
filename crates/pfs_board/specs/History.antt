-- The history of a board: its publications and releases in the order of time, newest first, and what stands after them.
-- A row has seventeen words: its lock word, at 17 r, and sixteen content words. `start` has the opening words.
use Rattle.std.specs.Prelude.{◌≡◌, ◌⊎◌, ℕ, ◌+◌, ◌*◌, ◌<◌, ◌≤◌, ◌==◌, nat_lt, Bool, true, false, not, if◌then◌else◌, List, [], ◌∷◌, ◌++◌, length, replicate, slice_index, refl}
use Rattle.pfs_board.specs.declared.view.Change.{Change}
use Rattle.pfs_board.specs.declared.view.Label.{Label}

-- the publications that a board has room for
abbrev pub all_changes : ℕ
all_changes = 140737488355328

-- the weights of the entries, added up
abbrev pub total : {A : Type 0} → (A → ℕ) → List A → ℕ
total h [] = 0
total h (x ∷ xs) = h x + total h xs

abbrev pub Each : {A : Type 0} → (A → Type 0) → List A → Type 0
Each P [] = Unit {0}
Each P (x ∷ xs) = P x × Each P xs

abbrev pub Some_of : {A : Type 0} → (A → Type 0) → List A → Type 0
Some_of P [] = ⊥
Some_of P (x ∷ xs) = P x ⊎ Some_of P xs

abbrev pub lock_at : ℕ → ℕ
lock_at r = 17 * r

abbrev pub word_at : ℕ → ℕ → ℕ
word_at r i = 17 * r + i + 1

-- a publication is one step of the row's version, and a release is none
abbrev pub step_of : Change → ℕ
step_of p = if p.puts then 1 else 0

-- how often a row was published
abbrev pub version : List Change → ℕ → ℕ
version [] r = 0
version (p ∷ ps) r = if p.row == r then version ps r + step_of p else version ps r

-- the word i of the content that was published last, or that the row opened with
abbrev pub stands : List ℕ → List Change → ℕ → ℕ → ℕ
stands start [] r i = slice_index start (word_at r i)
stands start (p ∷ ps) r i = if p.row == r then (if p.puts then slice_index p.put i else stands start ps r i)
    else stands start ps r i

-- the word i of the content at the version k
abbrev pub stood : List ℕ → List Change → ℕ → ℕ → ℕ → ℕ
stood start [] r k i = slice_index start (word_at r i)
stood start (p ∷ ps) r k i =
    if p.row == r then (if p.puts then (if p.version == k then slice_index p.put i else stood start ps r k i)
    else stood start ps r k i) else stood start ps r k i

-- the row was released last, or opened free and has no change yet
abbrev pub is_free : List ℕ → List Change → ℕ → Bool
is_free start [] r = slice_index start (lock_at r) == 0
is_free start (p ∷ ps) r = if p.row == r then not p.puts else is_free start ps r

-- a release at the version k, or an opening that was free and had version 0
abbrev pub IsFreedAt : List ℕ → List Change → ℕ → ℕ → Type 0
IsFreedAt start log r k = Some_of (λ (p : Change). (p.row ≡ r) × (p.puts ≡ false) × (p.version ≡ k)) log
    ⊎ ((k ≡ 0) × (slice_index start (lock_at r) ≡ 0))

-- the labels of the publications of row 0, in their order
abbrev pub labels_of : List Change → List Label
labels_of [] = []
labels_of (p ∷ ps) = if p.row == 0 then (if p.puts then labels_of ps ++ p.label ∷ [] else labels_of ps)
    else labels_of ps

-- An entry has the next version of its row and found what stood there. Inside an action it has that action's number.
-- Row 0 is published by each action, once
pub record Follows (start : List ℕ) (ps : List Change) (p : Change) : Type 0 where
  pub numbered : p.version ≡ version ps p.row + step_of p
  pub found_wide : length p.found ≡ 16
  pub put_wide : length p.put ≡ 16
  pub found_is : (i : ℕ) → i < 16 → slice_index p.found i ≡ stands start ps p.row i
  pub inside : (p.action ≡ 0) ⊎ (p.action ≡ version ps 0 + 1)
  pub after_it : p.after ≤ version ps 0
  pub first : p.row ≡ 0 → (p.puts ≡ true) × (p.action ≡ p.version)

abbrev pub IsChain : List ℕ → List Change → Type 0
IsChain start [] = Unit {0}
IsChain start (p ∷ ps) = Follows start ps p × IsChain start ps

-- along a row the numbers of the actions never fall
abbrev pub Rises : List Change → Type 0
Rises [] = Unit {0}
Rises (p ∷ ps) = (0 < p.action → Each (λ (e : Change). e.row ≡ p.row → e.action ≤ p.action) ps) × Rises ps

-- the entries of one history in the order of time are those of the list, each once
pub record IsPast (start : List ℕ) (made log : List Change) : Type 0 where
  pub chain : IsChain start log
  pub once : (h : Change → ℕ) → total h made ≡ total h log

-- the oldest n entries
abbrev pub oldest : ℕ → List Change → List Change
oldest n [] = []
oldest n (p ∷ ps) = if nat_lt (length ps) n then p ∷ ps else oldest n ps

-- what a whole look at the row shows at least, once the entry stands: a release shows itself to no look at its own
-- version
abbrev pub level : Change → ℕ
level p = if p.puts then p.version else p.version + 1

abbrev pub version_of : Change → ℕ
version_of p = p.version

-- what a later entry of the row is not below, once this one stands: a publication is above each release too
abbrev pub shows_to : Change → Change → ℕ
shows_to p e = if p.puts then level e else e.version

-- No entry of the row by an action up to `after` is above k, nor one of those that the root had first. `had` are the
-- root's changes
pub record Floor (f : Change → ℕ) (log had : List Change) (row k after base : ℕ) : Type 0 where
  pub ended : after ≤ version log 0
  pub split_at : base ≤ length had
  pub actions : Each (λ (p : Change). p.row ≡ row → 0 < p.action → p.action ≤ after → f p ≤ k) log
  pub first : Each (λ (p : Change). p.row ≡ row → f p ≤ k) (oldest base had)

-- Two publications of row 1, by the seats 0 and 2, and the same where the second does not raise the version. The
-- sixteen zeros stand for the opening words
abbrev pub zeros : List ℕ
zeros = replicate 16 0

abbrev pub sevens : List ℕ
sevens = replicate 16 7

abbrev pub entry_of : ℕ → ℕ → List ℕ → List ℕ → Change
entry_of by version found put = record {
  by = by;
  row = 1;
  version = version;
  puts = true;
  action = 0;
  after = 0;
  base = 0;
  label = record { session = 0; line = 0 };
  found = found;
  put = put;
}

one_not_two : (let one : ℕ = 1 in one ≡ 2) → ⊥
one_not_two e = cc

pub example_version : version (entry_of 2 2 sevens zeros ∷ entry_of 0 1 zeros sevens ∷ []) 1 ≡ 2
example_version = refl

pub example_stood : (stood zeros (entry_of 2 2 sevens zeros ∷ entry_of 0 1 zeros sevens ∷ []) 1 1 15 ≡ 7)
    × (stands zeros (entry_of 2 2 sevens zeros ∷ entry_of 0 1 zeros sevens ∷ []) 1 15 ≡ 0)
example_stood = (refl, refl)

pub example_not_raised : ¬ (IsChain zeros (entry_of 2 1 sevens zeros ∷ entry_of 0 1 zeros sevens ∷ []))
example_not_raised c = one_not_two c.0.numbered
