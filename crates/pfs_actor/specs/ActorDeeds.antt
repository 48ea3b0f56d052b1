-- What a session did over an actor, for a run that contracts name.
use Rattle.std.specs.Prelude.{ℕ, ◌≡◌, List, [], ◌∷◌, ◌++◌, IfSome, Option, length}
use Rattle.pfs_admin.specs.AdministrationStates.{State as Administration}
use Rattle.pfs_admin.specs.Fold.{StandsFor}
use Rattle.pfs_admin.specs.declared.changes.Change.{Change}
use Rattle.pfs_admin.specs.declared.changes.Change.TheVariants.{Setup}
use Rattle.pfs_admin.specs.declared.changes.SetupStatement.TheVariants.{Show}
use Rattle.pfs_board.specs.declared.view.Label.{Label}
use Rattle.pfs_classes.specs.declared.setting.Setting.{Setting}
use Rattle.pfs_exec.specs.Selections.{IsAnswer}
use Rattle.pfs_exec.specs.declared.query.Select.{Select}
use Rattle.pfs_law_plain.specs.ActionFolds.{DoingsFolded}
use Rattle.pfs_law_plain.specs.Spells.{Doing, doings_calls, entering, label_of, parts_in}
use Rattle.pfs_law_session.specs.Deeds.{Deed, Part, Showing, action_of}
use Rattle.pfs_law_session.specs.JournalLaws.{AreParts, entries_of, state_behind}
use Rattle.pfs_levels.specs.Calls.{Call, Leaves, Opening}
use Rattle.pfs_model.specs.JournalCuts.{joined}
use Rattle.pfs_session.specs.SessionStates.{State, Book}
use Rattle.pfs_session.specs.Turns.{AreTurns, Changes, SettlesHeld, Turn, state_after, steps_of, turns_calls, turns_entries}
use Rattle.pfs_setups.specs.HeldRows.{held_rows}
use Rattle.pfs_text.specs.declared.values.RowValue.{RowValue}

-- an action entered with its session's label
abbrev pub IsLabelled : State → Label → Deed → Type 0
IsLabelled s label deed = IfSome (action_of deed) (λ number. label ≡ label_of s)

abbrev pub AreLabelled : State → List Doing → Type 0
AreLabelled s [] = Unit {0}
AreLabelled s (d ∷ ds) = IsLabelled s d.label d.part.deed × AreLabelled (state_after s d.part.turns) ds

-- these parts with the labels that the store found, whose calls led here behind those; each action found the
-- administration that those labels make, and changed what its own says
pub record HaveLed (setting : Setting) (change : Label → Change) (s : State) (parts : List Part) (start : Opening)
    (calls : List Call) (now : Opening → List Call → Type 0) : Type 0 where
  pub doings : List Doing
  pub parts_are : parts_in doings ≡ parts
  pub labelled : AreLabelled s doings
  pub folded : DoingsFolded setting change doings
  pub reached : now start (doings_calls doings ++ calls)

-- a session did these parts, and nothing else: it wrote just their entries, and whatever calls led to the store as it
-- was, theirs led on from there
pub record HasDone (setting : Setting) (change : Label → Change) (parts : List Part) (old new : Book) (was now : Opening
    → List Call → Type 0) : Type 0 where
  pub are_parts : AreParts old.state parts
  pub state : new.state ≡ state_behind old.state parts
  pub entries_are : new.journal.entries ≡ old.journal.entries ++ joined (entries_of parts)
  pub leads : (start : Opening) → (calls : List Call) → was start calls
      → HaveLed setting change old.state parts start calls now

-- it did this action in one part, before the administration that it found
pub record HasActed (setting : Setting) (change : Label → Change) (deed : Administration → Deed) (old new : Book)
    (was now : Opening → List Call → Type 0) : Type 0 where
  pub admin : Administration
  pub part : Part
  pub deed_is : part.deed ≡ deed admin
  pub done : HasDone setting change (part ∷ []) old new was now

-- and it was shown what answers a SELECT by the rows that this administration holds
pub record HasShown (setting : Setting) (change : Label → Change) (query : Select) (answer : List (List RowValue))
    (old new : Book) (was now : Opening → List Call → Type 0) : Type 0 where
  pub admin : Administration
  pub part : Part
  pub deed_is : part.deed ≡ Showing admin (length answer)
  pub answered : IsAnswer query (held_rows query.table admin.actors admin.objects) answer
  pub done : HasDone setting change (part ∷ []) old new was now

-- it was not shown it: a front of that, an action whole but for how many rows answer
pub record HasBrokenOff (setting : Setting) (change : Label → Change) (old new : Book) (was now : Opening → List Call
    → Type 0) : Type 0 where
  pub admin : Administration
  pub turns : List Turn
  pub are_turns : AreTurns old.state turns
  pub steps_are : steps_of turns ≡ SettlesHeld ∷ Changes admin Show ∷ []
  pub state_is : new.state ≡ state_after old.state turns
  pub entries_are : new.journal.entries ≡ old.journal.entries ++ turns_entries turns
  pub named : change (label_of old.state) ≡ Setup Show
  pub leads : (start : Opening) → (calls : List Call) → was start calls → (labels : List Label)
      × (met : Option (List ℕ)) × StandsFor setting change labels admin
      × now start (Leaves ∷ (turns_calls turns ++ (entering (label_of old.state) labels met ++ calls)))
