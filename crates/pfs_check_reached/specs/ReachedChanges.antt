-- How far changes are reached: each is kept, is still to be tried, or waits for what isn't made yet.
use Rattle.std.specs.Prelude.{ℕ, ◌≡◌, ◌⊎◌, ◌-◌, false, List, [], ◌++◌, Option, Some, None, Result, Ok, Err, Vec}
use Rattle.std.specs.BTreeMap.{BTreeMap, get}
use Rattle.std.specs.declared.alloc.Global.{Global}
use Rattle.pfs_model.specs.declared.changes.Change.{Change}
use Rattle.pfs_model.specs.Actions.{IsAmong}
use Rattle.pfs_model.specs.Chains.{change_at, is_that}
use Rattle.pfs_model.specs.Contents.{Given}
use Rattle.pfs_model.specs.EntryPlaces.{Placed}
use Rattle.pfs_check_contents.specs.KeptContents.{change_cmp}
use Rattle.pfs_check_contents.specs.OrderlyChanges.{StandsAt}
use Rattle.pfs_check_contents.specs.PlacedChanges.{AreMadeOf}
use Rattle.pfs_check_contents.specs.RowEffects.{effect_on}
use Rattle.pfs_check_contents.specs.declared.changes.Effect.{Effect}
use Rattle.pfs_check_contents.specs.declared.changes.Effect.TheVariants as effects
use Rattle.pfs_check_contents.specs.declared.changes.RowChange.{RowChange}
use Rattle.pfs_check_faults.specs.ActionFaults.{IsMade}
use Rattle.pfs_check_reached.specs.MadeWords.{told_in}
use Rattle.pfs_check_reached.specs.declared.reaching.Tried.{Tried}
use Rattle.pfs_check_reached.specs.declared.reaching.Tried.TheVariants as tries
use Rattle.pfs_check_reached.specs.declared.reaching.Walk.{Walk}

abbrev pub places_or : Option (Vec ℕ Global) → List ℕ
places_or None = []
places_or (Some places) = places.items

-- the places of the changes that wait for a row's version
abbrev pub waits_in : BTreeMap Change (Vec ℕ Global) → Change → List ℕ
waits_in waiting key = places_or (get change_cmp waiting key)

-- what a give needs beside its row's version before
abbrev pub GivesFrom : Effect → Change → Type 0
GivesFrom (effects.Give from version) key = key ≡ change_at from (version - 1)
GivesFrom _ key = ⊥

-- what a change is made of
abbrev pub Needs : RowChange → Change → Type 0
Needs one key = (key ≡ change_at one.row (one.version - 1)) ⊎ GivesFrom one.effect key

-- it waits for something that it needs and that isn't made yet
pub record Waits (kept : BTreeMap Change (List ℕ)) (waiting : BTreeMap Change (Vec ℕ Global)) (place : ℕ)
    (one : RowChange) : Type 0 where
  pub key : Change
  pub there : IsAmong place (waits_in waiting key)
  pub needs : Needs one key
  pub untold : told_in kept key.row key.version ≡ None

pub record IsTold (kept : BTreeMap Change (List ℕ)) (one : RowChange) : Type 0 where
  pub words : List ℕ
  pub told : told_in kept one.row one.version ≡ Some words

-- each change is kept, or to be tried, or waits
abbrev pub AreOpen : List RowChange → BTreeMap Change (List ℕ) → BTreeMap Change (Vec ℕ Global) → List ℕ → Type 0
AreOpen changes kept waiting ready = (place : ℕ) (one : RowChange) → StandsAt changes place one
    → IsTold kept one ⊎ (IsAmong place ready ⊎ Waits kept waiting place one)

-- and what is kept is made
abbrev pub AreSound : List RowChange → BTreeMap Change (List ℕ) → Type 0
AreSound changes kept = (given : Given) (all : List Placed) → AreMadeOf given all changes
    → (row version : ℕ) (words : List ℕ) → told_in kept row version ≡ Some words → IsMade given all row version words

-- what a give gives is made, or isn't yet
abbrev pub IsSource : BTreeMap Change (List ℕ) → Effect → List ℕ → Type 0
IsSource kept (effects.Give from version) words = told_in kept from (version - 1) ≡ Some words
IsSource kept _ words = Unit {0}

abbrev pub IsSourceTold : BTreeMap Change (List ℕ) → Effect → Result (List ℕ) Change → Type 0
IsSourceTold kept effect (Ok words) = IsSource kept effect words
IsSourceTold kept effect (Err key) = GivesFrom effect key × (told_in kept key.row key.version ≡ None)

-- the words of a change, by what is kept
pub record IsNew (kept : BTreeMap Change (List ℕ)) (one : RowChange) (words : List ℕ) : Type 0 where
  pub here : List ℕ
  pub source : List ℕ
  pub here_is : told_in kept one.row (one.version - 1) ≡ Some here
  pub source_is : IsSource kept one.effect source
  pub words_are : words ≡ effect_on one.effect (λ row version. source) here

abbrev pub IsTried : BTreeMap Change (List ℕ) → RowChange → Tried → Type 0
IsTried kept one (tries.Made words) = IsNew kept one words
IsTried kept one (tries.Waits key) = Needs one key × (told_in kept key.row key.version ≡ None)

-- a walk over the changes, where these are still to be tried
pub record IsWalked (changes : List RowChange) (walk : Walk) (ready : List ℕ) : Type 0 where
  pub sound : AreSound changes walk.reached.kept
  pub opened : AreOpen changes walk.reached.kept walk.waiting.kept ready

-- those that waited for a change are to be tried
pub record IsWoken (old new : Walk) (change : Change) : Type 0 where
  pub reached : new.reached ≡ old.reached
  pub ready : new.ready.items ≡ old.ready.items ++ waits_in old.waiting.kept change
  pub others : (other : Change) → is_that other change ≡ false
      → waits_in new.waiting.kept other ≡ waits_in old.waiting.kept other

-- a change isn't made
pub record LeavesOut (changes : List RowChange) (kept : BTreeMap Change (List ℕ)) : Type 0 where
  pub place : ℕ
  pub one : RowChange
  pub there : StandsAt changes place one
  pub untold : told_in kept one.row one.version ≡ None
