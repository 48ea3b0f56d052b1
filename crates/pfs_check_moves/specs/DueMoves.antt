-- The changes that are due of an action, beside its sets.
use Rattle.std.specs.Prelude.{ℕ, ◌≡◌, ◌+◌, ◌≤◌, Bool, true, false, cond, List, [], ◌∷◌, ◌++◌, length, slice_get, take, Option, Some, None}
use Rattle.std.specs.List.{AllZip}
use Rattle.pfs_event.specs.declared.entry.Entry.{Entry}
use Rattle.pfs_event.specs.declared.entry.Entry.TheVariants as says
use Rattle.pfs_model.specs.ActionAsks.{did}
use Rattle.pfs_check_contents.specs.declared.shelf.Shelf.{Shelf}
use Rattle.pfs_check_moves.specs.FoundTakes.{FindsAs}

-- of all that an action may ask for: a give is due where what the take found has counted something, a set never here
abbrev pub is_due : (ℕ → Bool) → Entry → Bool
is_due counted (says.Give row version from) = counted from
is_due counted (says.Set word version flags) = false
is_due counted entry = true

abbrev pub due_of : (ℕ → Bool) → List Entry → List Entry
due_of counted [] = []
due_of counted (entry ∷ entries) = cond (is_due counted entry) (entry ∷ []) [] ++ due_of counted entries

-- an entry is as it is due: it does the same, and finds what is said
abbrev pub IsAsDue : Shelf → (ℕ → Bool) → Entry → Entry → Type 0
IsAsDue shelf counted due entry = (did due ≡ did entry) × FindsAs shelf counted entry

-- and one is due at a place that it is so
abbrev pub IsDueAt : Shelf → (ℕ → Bool) → List Entry → ℕ → Entry → Type 0
IsDueAt shelf counted due at entry = (one : Entry) × (slice_get due at ≡ Some one) × IsAsDue shelf counted one entry

-- so the first ones of two lists, so many
abbrev pub AreAsDue : Shelf → (ℕ → Bool) → ℕ → List Entry → List Entry → Type 0
AreAsDue shelf counted many due printed = AllZip (IsAsDue shelf counted) (take many due) (take many printed)

-- the first place at which they aren't; the end of one counts as a place
pub record Misses (shelf : Shelf) (counted : ℕ → Bool) (due printed : List Entry) (at : ℕ) : Type 0 where
  pub within : at ≤ length printed
  pub before : AreAsDue shelf counted at due printed
  pub wrong : AreAsDue shelf counted (at + 1) due printed → ⊥

abbrev pub IsFirstMiss : Shelf → (ℕ → Bool) → List Entry → List Entry → Option ℕ → Type 0
IsFirstMiss shelf counted due printed None = AllZip (IsAsDue shelf counted) due printed
IsFirstMiss shelf counted due printed (Some at) = Misses shelf counted due printed at
