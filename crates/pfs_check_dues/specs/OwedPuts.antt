-- What is due of the event that started or ended last, entry by entry.
use Rattle.std.specs.Prelude.{ℕ, ◌≡◌, true, false, cond, List, [], ◌∷◌}
use Rattle.pfs_event.specs.declared.entry.Entry.{Entry}
use Rattle.pfs_event.specs.declared.entry.Entry.TheVariants as says
use Rattle.pfs_model.specs.Contexts.{noted, subject_of}
use Rattle.pfs_model.specs.EntryAsks.{is_head}
use Rattle.pfs_model.specs.EntryPlaces.{Placed}
use Rattle.pfs_model.specs.Puts.{ArePaid, Due, dues_at_end, dues_at_start, is_paid}
use Rattle.pfs_check_faults.specs.RingFaults.{IsUnpaid}

-- what is left of an event's dues, or what stands here belongs to no event
pub data Owed : Type 0 where
  Nothing : Owed
  Left : List Due → Owed

-- behind an entry that pays the first of them
abbrev pub paid_one : Owed → Owed
paid_one Nothing = Nothing
paid_one (Left []) = Left []
paid_one (Left (due ∷ dues)) = Left dues

abbrev pub owed_after : (ℕ → ℕ → ℕ) → List Placed → Placed → Entry → Owed → Owed
owed_after flags earlier place (says.Start event verdict consumers thread class table) before =
    Left (dues_at_start flags place.context.slot (noted (subject_of place.line) place.context place.entry).opened)
owed_after flags earlier place (says.End event last consumers thread) before =
    Left (dues_at_end flags earlier place place.context.opened consumers thread)
owed_after flags earlier place entry before = cond (is_head entry) Nothing (paid_one before)

-- behind these entries, the last first
unfoldable pub owed_by : (ℕ → ℕ → ℕ) → List Placed → Owed
owed_by flags [] = Nothing
owed_by flags (place ∷ earlier) = owed_after flags earlier place place.entry (owed_by flags earlier)

-- The next entry pays the first, or begins something where none is left.
abbrev pub Pays : Owed → Entry → Type 0
Pays Nothing entry = Unit {0}
Pays (Left []) entry = is_head entry ≡ true
Pays (Left (due ∷ dues)) entry = (is_head entry ≡ false) × (is_paid due entry ≡ true)

abbrev pub PaysAt : (ℕ → ℕ → ℕ) → List Placed → Placed → Type 0
PaysAt flags earlier place = Pays (owed_by flags earlier) place.entry

-- none is left
abbrev pub IsSettled : Owed → Type 0
IsSettled Nothing = Unit {0}
IsSettled (Left []) = Unit {0}
IsSettled (Left (due ∷ dues)) = ⊥

-- just these entries pay it, or this one doesn't
abbrev pub ArePaidBy : Owed → List Entry → Type 0
ArePaidBy Nothing entries = Unit {0}
ArePaidBy (Left dues) entries = ArePaid dues entries

abbrev pub IsUnpaidBy : Owed → List Entry → ℕ → Type 0
IsUnpaidBy Nothing entries at = ⊥
IsUnpaidBy (Left dues) entries at = IsUnpaid dues entries at
