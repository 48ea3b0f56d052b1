-- A summary row's numbers: what one event gives, how rows are put together, and their sixteen words.
use Rattle.std.specs.Prelude.{ℕ, ◌≡◌, ◌+◌, ◌-◌, ◌^◌, ◌%◌, ◌<◌, List, [], ◌∷◌, if◌then◌else◌, min, max, slice_index, fold}
use Rattle.pfs_stat.specs.declared.Stat.{Stat}
use Rattle.pfs_stat.specs.declared.Measure.{Measure}

-- each number is one of 64 bits
pub record Fits (s : Stat) : Type 0 where
  pub count : s.count < 2 ^ 64
  pub sum : s.sum < 2 ^ 64
  pub min : s.min < 2 ^ 64
  pub max : s.max < 2 ^ 64
  pub lock : s.lock < 2 ^ 64
  pub errors : s.errors < 2 ^ 64
  pub warnings : s.warnings < 2 ^ 64
  pub affected : s.affected < 2 ^ 64
  pub sent : s.sent < 2 ^ 64
  pub examined : s.examined < 2 ^ 64

-- a row that has counted nothing
abbrev pub zero_of : Stat
zero_of = record {
  count = 0;
  sum = 0;
  min = 2 ^ 64 - 1;
  max = 0;
  lock = 0;
  errors = 0;
  warnings = 0;
  affected = 0;
  sent = 0;
  examined = 0;
}

-- a row that has counted this event alone
abbrev pub stat_of : Measure → Stat
stat_of m = record {
  count = 1;
  sum = if m.timed then m.wait else 0;
  min = if m.timed then m.wait else 2 ^ 64 - 1;
  max = if m.timed then m.wait else 0;
  lock = m.lock;
  errors = m.errors;
  warnings = m.warnings;
  affected = m.affected;
  sent = m.sent;
  examined = m.examined;
}

-- the events of both rows in one
abbrev pub merge_of : Stat → Stat → Stat
merge_of a b = record {
  count = (a.count + b.count) % 2 ^ 64;
  sum = (a.sum + b.sum) % 2 ^ 64;
  min = min a.min b.min;
  max = max a.max b.max;
  lock = (a.lock + b.lock) % 2 ^ 64;
  errors = (a.errors + b.errors) % 2 ^ 64;
  warnings = (a.warnings + b.warnings) % 2 ^ 64;
  affected = (a.affected + b.affected) % 2 ^ 64;
  sent = (a.sent + b.sent) % 2 ^ 64;
  examined = (a.examined + b.examined) % 2 ^ 64;
}

-- an event's numbers are of 64 bits each
pub record IsInRange (m : Measure) : Type 0 where
  pub wait : m.wait < 2 ^ 64
  pub lock : m.lock < 2 ^ 64
  pub errors : m.errors < 2 ^ 64
  pub warnings : m.warnings < 2 ^ 64
  pub affected : m.affected < 2 ^ 64
  pub sent : m.sent < 2 ^ 64
  pub examined : m.examined < 2 ^ 64

-- what merging rows does not depend on: their order and grouping, and rows that counted nothing; the rows that events
-- give and those that rows give fit
pub record MergeIsMonoid : Type 0 where
  pub unit : (a : Stat) → Fits a → merge_of zero_of a ≡ a
  pub commutes : (a b : Stat) → merge_of a b ≡ merge_of b a
  pub associates : (a b c : Stat) → merge_of (merge_of a b) c ≡ merge_of a (merge_of b c)
  pub fits : (a b : Stat) → Fits a → Fits b → Fits (merge_of a b)
  pub zero_fits : Fits zero_of
  pub event_fits : (m : Measure) → IsInRange m → Fits (stat_of m)

-- the rows of a list, from the first on, in one
abbrev pub merge_all : List Stat → Stat
merge_all stats = fold merge_of zero_of stats

-- a slot's words: the ten numbers, then 0
abbrev pub words_of : Stat → List ℕ
words_of s = s.count ∷ s.sum ∷ s.min ∷ s.max ∷ s.lock ∷ s.errors ∷ s.warnings ∷ s.affected ∷ s.sent ∷ s.examined ∷ 0
    ∷ 0 ∷ 0 ∷ 0 ∷ 0 ∷ 0 ∷ []

-- the numbers that stand in a slot's first ten words
abbrev pub stat_of_words : List ℕ → Stat
stat_of_words w = record {
  count = slice_index w 0;
  sum = slice_index w 1;
  min = slice_index w 2;
  max = slice_index w 3;
  lock = slice_index w 4;
  errors = slice_index w 5;
  warnings = slice_index w 6;
  affected = slice_index w 7;
  sent = slice_index w 8;
  examined = slice_index w 9;
}

-- the words of a row give the row back
abbrev pub WordsAgree : Type 0
WordsAgree = (s : Stat) → stat_of_words (words_of s) ≡ s
