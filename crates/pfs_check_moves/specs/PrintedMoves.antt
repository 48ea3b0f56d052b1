-- What a report prints of each action beside its sets: its takes and gives, its releases and tags.
use Rattle.std.specs.Prelude.{ℕ, ◌≡◌, ◌==◌, Bool, true, false, cond, List, [], ◌∷◌, ◌++◌, Option, Some, None, Vec}
use Rattle.std.specs.BTreeMap.{BTreeMap, get}
use Rattle.std.specs.Ordering.{nat_cmp}
use Rattle.std.specs.declared.alloc.Global.{Global}
use Rattle.pfs_event.specs.declared.entry.Entry.{Entry}
use Rattle.pfs_event.specs.declared.entry.Entry.TheVariants as says
use Rattle.pfs_model.specs.ActionAsks.{of_action}
use Rattle.pfs_model.specs.EntryPlaces.{Placed}

-- the entry is a change by an action, and no set
abbrev pub is_moving : Entry → Bool
is_moving (says.Take row version) = true
is_moving (says.Give row version from) = true
is_moving (says.Free row version) = true
is_moving (says.Tag row version) = true
is_moving _ = false

-- those that are
abbrev pub moving : List Placed → List Entry
moving [] = []
moving (place ∷ places) = cond (is_moving place.entry) (place.entry ∷ []) [] ++ moving places

abbrev pub entries_or : Option (Vec Entry Global) → List Entry
entries_or None = []
entries_or (Some entries) = entries.items

abbrev pub moves_of : BTreeMap ℕ (Vec Entry Global) → ℕ → List Entry
moves_of kept number = entries_or (get nat_cmp kept number)

-- those of each action among these entries are kept
pub record ArePrinted (places : List Placed) (kept : BTreeMap ℕ (Vec Entry Global)) : Type 0 where
  pub each : (number : ℕ) → moves_of kept number ≡ moving (of_action number places)

-- with one entry more of an action
pub record IsPrintedMore (old new : BTreeMap ℕ (Vec Entry Global)) (action : ℕ) (entry : Entry) : Type 0 where
  pub each : (number : ℕ) → moves_of new number
      ≡ moves_of old number ++ cond (action == number) (cond (is_moving entry) (entry ∷ []) []) []

-- entries that stand with the last first, in their order
abbrev pub in_order : List Placed → List Placed
in_order [] = []
in_order (place ∷ earlier) = in_order earlier ++ place ∷ []
