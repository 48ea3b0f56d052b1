-- The changes of entries as values: each with the action that made it and with what it makes of the content before it.
use Rattle.std.specs.Prelude.{ℕ, ◌≡◌, ◌<◌, Bool, true, false, length, List, [], ◌∷◌, Some}
use Rattle.std.specs.List.{AllZip}
use Rattle.pfs_event.specs.declared.entry.Entry.{Entry}
use Rattle.pfs_event.specs.declared.entry.Entry.TheVariants as says
use Rattle.pfs_model.specs.declared.changes.Change.{Change}
use Rattle.pfs_model.specs.Actions.{IsAmong}
use Rattle.pfs_model.specs.Chains.{row_change}
use Rattle.pfs_model.specs.Contents.{Given, content_after}
use Rattle.pfs_model.specs.Contexts.{Context}
use Rattle.pfs_model.specs.EntryPlaces.{Placed, chosen}
use Rattle.pfs_check_contents.specs.declared.changes.Effect.{Effect}
use Rattle.pfs_check_contents.specs.declared.changes.Effect.TheVariants as effects
use Rattle.pfs_check_contents.specs.declared.changes.RowChange.{RowChange}
use Rattle.pfs_check_contents.specs.declared.shelf.Shelf.{Shelf}
use Rattle.pfs_check_contents.specs.ChangeReplays.{IsShelfFor, change_of, done_of}
use Rattle.pfs_check_contents.specs.KeptContents.{IsShelfOf}
use Rattle.pfs_check_contents.specs.RowEffects.{effect_on}

-- the action that takes, gives or tags; no other change is by an action
abbrev pub acting : ℕ → Entry → ℕ
acting action (says.Take row version) = action
acting action (says.Give row version from) = action
acting action (says.Tag row version) = action
acting action _ = 0

-- nothing of another row is given
abbrev pub IsPlain : Effect → Type 0
IsPlain (effects.Give from version) = ⊥
IsPlain _ = Unit {0}

-- a give gives what the last take of its action took
abbrev pub IsSourceOf : Context → Entry → Effect → Type 0
IsSourceOf context (says.Give row version from) effect =
    (context.source ≡ Some from) × (effect ≡ effects.Give from context.source_version)
IsSourceOf context _ effect = IsPlain effect

-- the content behind the change is made by its effect
abbrev pub IsEffectOf : Given → Placed → Effect → Type 0
IsEffectOf given place effect = (content : ℕ → ℕ → List ℕ) → (here : List ℕ)
    → content_after given content place place.context here place.entry ≡ effect_on effect content here

pub record IsChangeOf (given : Given) (place : Placed) (one : RowChange) : Type 0 where
  pub change : row_change place.entry ≡ change_of one ∷ []
  pub action : one.action ≡ acting place.context.action place.entry
  pub source : IsSourceOf place.context place.entry one.effect
  pub effect : IsEffectOf given place one.effect

-- the entries that change a row
abbrev pub is_some_of : List Change → Bool
is_some_of [] = false
is_some_of (change ∷ changes) = true

abbrev pub is_changing : Placed → Bool
is_changing place = is_some_of (row_change place.entry)

abbrev pub changing : List Placed → List Placed
changing places = chosen is_changing places

-- All changes of the entries, in their order.
abbrev pub AreMadeOf : Given → List Placed → List RowChange → Type 0
AreMadeOf given all changes = AllZip (IsChangeOf given) (changing all) changes

-- Each change of the entries has been replayed, so what is kept is kept of them.
abbrev pub ShelvedLaw : Type 0
ShelvedLaw = (given : Given) (all : List Placed) (changes : List RowChange) (order : List ℕ) (shelf : Shelf)
    → AreMadeOf given all changes → ((place : ℕ) → place < length changes → IsAmong place order)
    → IsShelfFor (done_of changes order) shelf → IsShelfOf given all shelf
