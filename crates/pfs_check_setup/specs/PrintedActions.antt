-- What a report prints of each action: its sets, and how many other changes.
use Rattle.std.specs.Prelude.{ℕ, ◌≡◌, ◌+◌, ◌==◌, Bool, true, false, cond, List, [], ◌∷◌, ◌++◌, length, map, Option, Some, None, Vec, unwrap_or}
use Rattle.std.specs.BTreeMap.{BTreeMap, get}
use Rattle.std.specs.Ordering.{nat_cmp}
use Rattle.std.specs.declared.alloc.Global.{Global}
use Rattle.pfs_event.specs.declared.entry.Entry.{Entry}
use Rattle.pfs_event.specs.declared.entry.Entry.TheVariants as says
use Rattle.pfs_model.specs.ActionAsks.{of_action}
use Rattle.pfs_model.specs.Actions.{Setting, settings_of}
use Rattle.pfs_model.specs.Chains.{each_of}
use Rattle.pfs_model.specs.EntryPlaces.{Placed}
use Rattle.pfs_check_faults.specs.ActionFaults.{moving_at}
use Rattle.pfs_check_setup.specs.declared.printed.PrintedActions.{PrintedActions}
use Rattle.pfs_check_setup.specs.declared.sets.WordSet.{WordSet}

-- the set of an action, as the model has it
abbrev pub setting_by : ℕ → WordSet → Setting
setting_by number set = record { action = number; word = set.word; version = set.version; flags = set.flags }

-- the set that an entry is
abbrev pub word_sets : Entry → List WordSet
word_sets (says.Set word version flags) = record { word = word; version = version; flags = flags } ∷ []
word_sets _ = []

-- it is another change by an action
abbrev pub is_moving : Entry → Bool
is_moving (says.Take row version) = true
is_moving (says.Give row version from) = true
is_moving (says.Free row version) = true
is_moving (says.Tag row version) = true
is_moving _ = false

abbrev pub items_or : Option (Vec WordSet Global) → List WordSet
items_or None = []
items_or (Some sets) = sets.items

abbrev pub sets_in : BTreeMap ℕ (Vec WordSet Global) → ℕ → List WordSet
sets_in sets number = items_or (get nat_cmp sets number)

abbrev pub count_in : BTreeMap ℕ ℕ → ℕ → ℕ
count_in counts key = unwrap_or (get nat_cmp counts key) 0

-- those of each action among these entries are kept
pub record ArePrinted (places : List Placed) (printed : PrintedActions) : Type 0 where
  pub sets : (number : ℕ)
      → map (setting_by number) (sets_in printed.sets number) ≡ settings_of (of_action number places)
  pub changes : (number : ℕ) → count_in printed.changes number ≡ length (each_of moving_at (of_action number places))

-- with one entry more of an action
pub record IsPrintedMore (old new : PrintedActions) (action : ℕ) (entry : Entry) : Type 0 where
  pub sets : (number : ℕ) → sets_in new.sets number
      ≡ sets_in old.sets number ++ cond (action == number) (word_sets entry) []
  pub changes : (number : ℕ) → count_in new.changes number
      ≡ count_in old.changes number + cond (action == number) (cond (is_moving entry) 1 0) 0
