-- An actor over a board, as contracts see it between two actions.
use Rattle.std.specs.Prelude.{ℕ, ◌≡◌, ◌<◌, true, List, [], ◌∷◌, Option, Some, None, IsSomeAnd}
use Rattle.atomic_table.specs.Seated.{TableId}
use Rattle.pfs_admin.specs.declared.changes.Change.{Change}
use Rattle.pfs_board.specs.declared.view.Label.{Label}
use Rattle.pfs_board_admin.specs.LabelWords.{version_after, AllKeepWords}
use Rattle.pfs_board_store.specs.RootLaws.{has_met}
use Rattle.pfs_classes.specs.declared.setting.Setting.{Setting}
use Rattle.pfs_levels.specs.Calls.{Call, Adds, Rings, Reads, Loads, Draws, Takes, Puts, Frees, Sets, Enters, Leaves, Meets, Opening, action_in}
use Rattle.pfs_levels.specs.Views.{Store}

-- an actor meets the writer of the words inside its actions alone
abbrev pub MeetsInside : List Call → Type 0
MeetsInside [] = Unit {0}
MeetsInside (Meets versions ∷ calls) = (0 < action_in calls) × MeetsInside calls
MeetsInside (Adds row amount answer ∷ calls) = MeetsInside calls
MeetsInside (Rings row content answer ∷ calls) = MeetsInside calls
MeetsInside (Reads row seen ∷ calls) = MeetsInside calls
MeetsInside (Loads at version flags ∷ calls) = MeetsInside calls
MeetsInside (Draws kind ticket ∷ calls) = MeetsInside calls
MeetsInside (Takes row version found ∷ calls) = MeetsInside calls
MeetsInside (Puts row content version ∷ calls) = MeetsInside calls
MeetsInside (Frees row version ∷ calls) = MeetsInside calls
MeetsInside (Sets at flags version ∷ calls) = MeetsInside calls
MeetsInside (Enters label labels ∷ calls) = MeetsInside calls
MeetsInside (Leaves ∷ calls) = MeetsInside calls

-- These calls led to a seat that loads the words of this run. No action is under way, its actor met the writer in the
-- newest one and nowhere else than in actions, and it kept to the words of its labels
pub record IsBetween (setting : Setting) (change : Label → Change) (switches : TableId)
    (led : Opening → List Call → Type 0) (start : Opening) (calls : List Call) : Type 0 where
  pub reached : led start calls
  pub same : start.switches.table ≡ switches
  pub outside : action_in calls ≡ 0
  pub met : has_met calls ≡ true
  pub inside : MeetsInside calls
  pub keeps : AllKeepWords (version_after setting change) calls

abbrev pub left_of : {S : Type 0} → (S → Store) → Option S → ℕ
left_of seen None = 0
left_of seen (Some rows) = (seen rows).left

abbrev pub draws_of : {S : Type 0} → (S → Store) → Option S → ℕ
draws_of seen None = 0
draws_of seen (Some rows) = (seen rows).draws

-- an actor that has a seat but while it is in an action: no row is in hand, and no word may be set
abbrev pub seated : {S : Type 0} → Setting → (Label → Change) → TableId → (S → Store) → Option S → Store
seated setting change switches seen held = record {
  reached = λ start calls. IsSomeAnd held (λ rows. IsBetween setting change switches (seen rows).reached start calls);
  hand = λ row. None;
  left = left_of seen held;
  draws = draws_of seen held;
  words = None;
  name = 0;
}
