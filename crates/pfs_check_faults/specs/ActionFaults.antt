-- The rules of what actions do: the sets of switch words, and the changes of rows. What an action changes stands on the
-- lines right behind its `connect` or `act`, its sets behind its other changes.
use Rattle.std.specs.Prelude.{ℕ, zero, suc, ◌≡◌, ◌≢◌, ◌+◌, ◌-◌, ◌<◌, ◌≤◌, ◌⊎◌, ◌==◌, not, Bool, true, false, List, [], ◌∷◌, ◌++◌, length, map, take, Some}
use Rattle.pfs_event.specs.declared.entry.Entry.{Entry}
use Rattle.pfs_event.specs.declared.entry.Entry.TheVariants as says
use Rattle.pfs_journal.specs.declared.report.ReportParts.{ReportParts}
use Rattle.pfs_model.specs.ActionAsks.{Asked, Did, Flagged, Flagging, did, flagged_by, moved_by, of_action, signed_by}
use Rattle.pfs_model.specs.Actions.{Deed, IsAmong, Setting, deed_at, deeds_of, settings_of}
use Rattle.pfs_model.specs.Chains.{Each, change_at, each_of, row_change, times, action_change}
use Rattle.pfs_model.specs.Contents.{Given, content_after, opening_words}
use Rattle.pfs_model.specs.EntryPlaces.{Placed}
use Rattle.pfs_stat.specs.Stat.{stat_of_words}
use Rattle.pfs_check_faults.specs.ReportCases.{AlikeUpTo, StandsOn}

-- the action of this number begins at the entry of this place
abbrev pub BeginsAt : ℕ → List Placed → ℕ → Type 0
BeginsAt number [] at = ⊥
BeginsAt number (place ∷ places) zero = action_change place.entry ≡ change_at 0 number ∷ []
BeginsAt number (place ∷ places) (suc at) = BeginsAt number places at

-- it begins on this line
abbrev pub BeginsOn : ReportParts → List Placed → ℕ → ℕ → Type 0
BeginsOn report all number line = (at : ℕ) × BeginsAt number all at × StandsOn report at line

-- what an entry did, where it is a set, and where it is another change
abbrev pub flagging_at : Entry → List Did
flagging_at (says.Set word version flags) = Flagged word flags ∷ []
flagging_at _ = []

abbrev pub moving_at : Entry → List Did
moving_at (says.Set word version flags) = []
moving_at entry = did entry

-- those of these places that are changes other than sets
abbrev pub moves_in : List Placed → List Placed
moves_in [] = []
moves_in (place ∷ places) = map (λ _. place) (moving_at place.entry) ++ moves_in places

-- each action sets what it asks for
abbrev pub SetAsAsked : (ℕ → Asked) → List Placed → Type 0
SetAsAsked asked all = (number : ℕ) → 0 < number
    → each_of flagging_at (of_action number all) ≡ flagged_by (asked number).sets

-- how often the actions from 1 up to this one ask to set a word
abbrev pub sets_asked : (ℕ → Asked) → ℕ → ℕ → ℕ
sets_asked asked word zero = 0
sets_asked asked word (suc before) =
    times (λ (one : Flagging). one.word == word) (asked (suc before)).sets + sets_asked asked word before

-- the sets that are due of an action, each at the version behind those of the actions before it
abbrev pub sets_due_of : (ℕ → Asked) → ℕ → List Flagging → List Setting
sets_due_of asked number [] = []
sets_due_of asked number (one ∷ others) = record {
  action = number;
  word = one.word;
  version = sets_asked asked one.word (number - 1) + 1;
  flags = one.flags;
} ∷ sets_due_of asked number others

abbrev pub sets_due : (ℕ → Asked) → ℕ → List Setting
sets_due asked number = sets_due_of asked number (asked number).sets

-- The fourth rule fails on a line: the sets of an action up to there aren't those that are due.
pub record SetsFail (report : ReportParts) (asked : ℕ → Asked) (all : List Placed) (line : ℕ) : Type 0 where
  pub number : ℕ
  pub begins : ℕ
  pub at : ℕ
  pub positive : 0 < number
  pub begins_is : BeginsOn report all number begins
  pub line_is : line ≡ begins + 1 + length (each_of moving_at (of_action number all)) + at
  pub within : at ≤ length (settings_of (of_action number all))
  pub wrong : AlikeUpTo (sets_due asked number) (settings_of (of_action number all)) at → ⊥

-- Along a row one deed stands before another: at a lower version, as the change before its release, or as that one of
-- two releases whose action has the lower number.
abbrev pub Precedes : Deed → Deed → Type 0
Precedes first next =
    (first.row ≡ next.row)
    × ((first.version < next.version)
    ⊎ ((first.version ≡ next.version) × (first.releases ≡ false) × (next.releases ≡ true))
    ⊎ ((first.version ≡ next.version) × (first.releases ≡ true) × (next.releases ≡ true)
    × (first.action < next.action)))

-- and nothing stands between them
pub record IsPredecessor (deeds : List Deed) (first next : Deed) : Type 0 where
  pub there : IsAmong first deeds
  pub before : Precedes first next
  pub none : (other : Deed) → IsAmong other deeds → Precedes first other → Precedes other next → ⊥

-- no deed of an entry is by an action of a lower number than its immediate predecessor's
abbrev pub NeverFallsAt : List Placed → List Placed → Placed → Type 0
NeverFallsAt all earlier place =
    Each (λ next. (first : Deed) → IsPredecessor (deeds_of all) first next → first.action ≤ next.action)
    (deed_at place.context.action place.entry)

-- What the changes make of a row at a version: nothing but these steps. So where no order of the changes makes it, it
-- isn't said.
pub data IsMade (given : Given) (all : List Placed) : ℕ → ℕ → List ℕ → Type 0 where
  Opens : (row : ℕ) (words : List ℕ) → words ≡ opening_words row → IsMade given all row 0 words
  Changes : (place : Placed) (row before : ℕ) (here words : List ℕ) → IsAmong place all
      → row_change place.entry ≡ change_at row (before + 1) ∷ []
      → ((from : ℕ) → place.entry ≢ says.Give row (before + 1) from)
      → IsMade given all row before here
      → words ≡ content_after given (λ other version. []) place place.context here place.entry
      → IsMade given all row (before + 1) words
  Gives : (place : Placed) (row before from : ℕ) (here source words : List ℕ) → IsAmong place all
      → place.entry ≡ says.Give row (before + 1) from → place.context.source ≡ Some from
      → IsMade given all row before here → IsMade given all from (place.context.source_version - 1) source
      → words ≡ content_after given (λ other version. source) place place.context here place.entry
      → IsMade given all row (before + 1) words

-- a take is said to find something just where what is made of the row before it has counted something
abbrev pub FindsWhatIsMade : Given → List Placed → (ℕ → Bool) → Entry → Type 0
FindsWhatIsMade given all counted (says.Take row version) =
    (words : List ℕ) → IsMade given all row (version - 1) words
    → counted row ≡ not ((stat_of_words words).count == 0)
FindsWhatIsMade given all counted entry = Unit {0}

-- The changes of an action's rows up to a place are as it asks for, for some finds of its takes that are as the
-- contents say up to there, where they say it.
pub record MovesUpTo (given : Given) (asked : ℕ → Asked) (all : List Placed) (number at : ℕ) : Type 0 where
  pub counted : ℕ → Bool
  pub found : Each (λ place. FindsWhatIsMade given all counted place.entry)
      (take (at + 1) (moves_in (of_action number all)))
  pub alike : AlikeUpTo (moved_by counted (asked number).moves ++ signed_by (asked number).signs)
      (each_of moving_at (of_action number all)) at

-- They aren't, up to the change on this line.
pub record MovesFail (report : ReportParts) (given : Given) (asked : ℕ → Asked) (all : List Placed) (line : ℕ) : Type 0
  where
    pub number : ℕ
    pub begins : ℕ
    pub at : ℕ
    pub positive : 0 < number
    pub begins_is : BeginsOn report all number begins
    pub line_is : line ≡ begins + 1 + at
    pub within : at ≤ length (each_of moving_at (of_action number all))
    pub wrong : MovesUpTo given asked all number at → ⊥
