-- Rows in the order of their keys, and the changes of some of them. A key is a list of texts.
use Rattle.std.specs.Prelude.{ℕ, ◌+◌, ◌==◌, ◌≤◌, Bool, List, [], ◌∷◌, length, IsTrue, if◌then◌else◌}
use Rattle.std.specs.declared.cmp.Ordering.{Ordering}
use Rattle.std.specs.Cmp.Lexicographic.{slice_cmp}
use Rattle.std.specs.Ordering.{is_lt, nat_cmp}
use Rattle.std.specs.List.{AllByRecursion, list_any}

-- keys compare text by text, and texts by their bytes
abbrev pub key_cmp : List (List ℕ) → List (List ℕ) → Ordering
key_cmp a b = slice_cmp (slice_cmp nat_cmp) a b

module _ {R : Type 0} (key : R → List (List ℕ)) where
  -- the key of the first row is the lesser one
  abbrev pub comes_before : R → R → Bool
  comes_before a b = is_lt (key_cmp (key a) (key b))

  -- each row comes before all that follow it
  abbrev pub AreOrdered : List R → Type 0
  AreOrdered [] = Unit {0}
  AreOrdered (row ∷ rows) = AllByRecursion (λ later. IsTrue (comes_before row later)) rows × AreOrdered rows

  -- the rows and a new one, which stands before all with a greater key
  abbrev pub with_row : R → List R → List R
  with_row new [] = new ∷ []
  with_row new (row ∷ rows) = if comes_before row new then row ∷ with_row new rows else new ∷ row ∷ rows

  -- the rows of a table: in key order, no two with one key, at most 100
  pub record AreRows (rows : List R) : Type 0 where
    pub ordered : AreOrdered rows
    pub few : length rows ≤ 100

-- the place is among the named ones
abbrev pub is_named : List ℕ → ℕ → Bool
is_named places n = list_any (λ place. place == n) places

module _ {R : Type 0} where
  -- of the rows, the first of which stands at place n, those whose places aren't named
  abbrev pub unnamed_from : ℕ → List ℕ → List R → List R
  unnamed_from n places [] = []
  unnamed_from n places (row ∷ rows) = if is_named places n then unnamed_from (n + 1) places rows
      else row ∷ unnamed_from (n + 1) places rows

  -- the rows without those at the named places
  abbrev pub without_named : List ℕ → List R → List R
  without_named places rows = unnamed_from 0 places rows

  -- of the rows, the first of which stands at place n, those at named places are changed
  abbrev pub changed_from : (R → R) → ℕ → List ℕ → List R → List R
  changed_from change n places [] = []
  changed_from change n places (row ∷ rows) =
      (if is_named places n then change row else row) ∷ changed_from change (n + 1) places rows

  -- the rows, of which those at the named places are changed
  abbrev pub with_named_changed : (R → R) → List ℕ → List R → List R
  with_named_changed change places rows = changed_from change 0 places rows
