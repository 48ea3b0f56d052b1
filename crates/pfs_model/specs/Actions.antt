-- The order of the actions.
use Rattle.std.specs.Prelude.{ℕ, ◌≡◌, ◌≤◌, ◌<◌, ◌⊎◌, ◌==◌, cond, Bool, true, false, List, [], ◌∷◌, ◌++◌}
use Rattle.pfs_event.specs.declared.entry.Entry.{Entry}
use Rattle.pfs_event.specs.declared.entry.Entry.TheVariants as says
use Rattle.pfs_model.specs.declared.changes.Change.{Change}
use Rattle.pfs_model.specs.EntryPlaces.{Placed}
use Rattle.pfs_model.specs.Chains.{Each, action_change, AreChained}

-- the entry is a part of an action that comes behind its number: a take, a give, a tag, a release or a set
abbrev pub is_acted : Entry → Bool
is_acted (says.Take row version) = true
is_acted (says.Give row version from) = true
is_acted (says.Tag row version) = true
is_acted (says.Free row version) = true
is_acted (says.Set word version flags) = true
is_acted _ = false

-- a row's change or release by an action: the action, the row, its version, and whether it is a release
pub record Deed : Type 0 where
  pub action : ℕ
  pub row : ℕ
  pub version : ℕ
  pub releases : Bool

abbrev pub deed : ℕ → ℕ → ℕ → Bool → List Deed
deed action row version releases = record { action = action; row = row; version = version; releases = releases } ∷ []

abbrev pub deed_at : ℕ → Entry → List Deed
deed_at action (says.Take row version) = deed action row version false
deed_at action (says.Give row version from) = deed action row version false
deed_at action (says.Tag row version) = deed action row version false
deed_at action (says.Free row version) = deed action row version true
deed_at action _ = []

-- what each entry gives under its action's number, one after another
abbrev pub deeds_by : (ℕ → Entry → List Deed) → List Placed → List Deed
deeds_by given [] = []
deeds_by given (place ∷ places) = given place.context.action place.entry ++ deeds_by given places

abbrev pub deeds_of : List Placed → List Deed
deeds_of places = deeds_by deed_at places

-- a set of a switch word: its action, its version and the flags
pub record Setting : Type 0 where
  pub action : ℕ
  pub word : ℕ
  pub version : ℕ
  pub flags : ℕ

abbrev pub setting_at : ℕ → Entry → List Setting
setting_at action (says.Set word version flags) = record {
  action = action;
  word = word;
  version = version;
  flags = flags;
} ∷ []
setting_at action _ = []

abbrev pub settings_of : List Placed → List Setting
settings_of [] = []
settings_of (place ∷ places) = setting_at place.context.action place.entry ++ settings_of places

-- the sets of words, as deeds
abbrev pub set_at : ℕ → Entry → List Deed
set_at action (says.Set word version flags) = deed action word version false
set_at action _ = []

abbrev pub sets_of : List Placed → List Deed
sets_of places = deeds_by set_at places

-- of the first deed and another of its row, the first stands before: at a lower version, or it is the change at a
-- version and the other its release
abbrev pub StandsBefore : Deed → Deed → Type 0
StandsBefore first next =
    (first.row ≡ next.row)
    × ((first.version < next.version)
    ⊎ ((first.version ≡ next.version) × (first.releases ≡ false) × (next.releases ≡ true)))

-- one of a list
abbrev pub IsAmong : {A : Type 0} → A → List A → Type 0
IsAmong x [] = ⊥
IsAmong x (y ∷ ys) = (y ≡ x) ⊎ IsAmong x ys

-- along a row, or a word, in the order of its versions, the numbers of the actions never fall
abbrev pub NeverFall : List Deed → Type 0
NeverFall deeds = (first next : Deed) → IsAmong first deeds → IsAmong next deeds → StandsBefore first next
    → first.action ≤ next.action

-- the numbers of a session's own actions
abbrev pub numbers_by : ℕ → List Placed → List Change
numbers_by session [] = []
numbers_by session (place ∷ places) =
    cond (place.session == session) (action_change place.entry) [] ++ numbers_by session places

-- each number is below those behind it
abbrev pub AllAbove : ℕ → List Change → Type 0
AllAbove number others = Each (λ other. number < other.version) others

abbrev pub AreRising : List Change → Type 0
AreRising [] = Unit {0}
AreRising (number ∷ numbers) = AllAbove number.version numbers × AreRising numbers

-- The numbers up to a phase's end are 1 to n, each once, and rise along each session; along a row and along a switch
-- word they never fall.
pub record IsOrdered (all : List Placed) : Type 0 where
  pub numbers : AreChained action_change all
  pub rising : (session : ℕ) → AreRising (numbers_by session all)
  pub deeds : NeverFall (deeds_of all)
  pub sets : NeverFall (sets_of all)
