-- The root's readings of what stands at an end, as an actor behind all others.
use Rattle.std.specs.Prelude.{ℕ, ◌≡◌, ◌*◌, ◌≤◌, false, List, [], ◌∷◌, ◌++◌, slice_index}
use Rattle.atomic_table.specs.Seated.{TableId}
use Rattle.pfs_admin.specs.Fold.{StandsFor}
use Rattle.pfs_admin.specs.OpeningState.{opening_flags}
use Rattle.pfs_admin.specs.declared.changes.Change.{Change}
use Rattle.pfs_board.specs.History.{is_free, version}
use Rattle.pfs_board.specs.declared.view.Change.{Change as Entry}
use Rattle.pfs_board.specs.declared.view.Label.{Label}
use Rattle.pfs_board_store.specs.RootActors.{Worked, calls_of_all}
use Rattle.pfs_board_store.specs.RootLaws.{IsRunsBoard}
use Rattle.pfs_classes.specs.declared.setting.Setting.{Setting}
use Rattle.pfs_law_joint.specs.Phases.{IsShared}
use Rattle.pfs_levels.specs.CallOrder.{AllCalls}
use Rattle.pfs_levels.specs.Calls.{Call, Loads, Reads, IsRow}
use Rattle.pfs_matching.specs.ObjectRules.{opening_objects}
use Rattle.pfs_rows.specs.declared.table.Seen.TheVariants.{Whole, Free}
use Rattle.pfs_law_board.specs.PhaseEnds.{AreAllBut, IsQuiet, PhaseEnd}

-- a row was read whole at its last version, where it stands, or free at it; a word was loaded at no version below these
abbrev pub IsOfEnd : List ℕ → List Entry → List ℕ → Call → Type 0
IsOfEnd start log seen (Reads row (Whole k found)) = IsRow row × (k ≡ version log row)
    × (is_free start log row ≡ false)
IsOfEnd start log seen (Reads row (Free word)) = IsRow row × (word ≡ 4 * version log row)
IsOfEnd start log seen (Loads at version flags) = slice_index seen at ≤ version
IsOfEnd start log seen _ = ⊥

abbrev pub AreOfEnd : List ℕ → List Entry → List ℕ → List Call → Type 0
AreOfEnd start log seen [] = Unit {0}
AreOfEnd start log seen (call ∷ calls) = IsOfEnd start log seen call × AreOfEnd start log seen calls

-- Behind an end of these actors the root read, by this list of calls, and did besides what its own say; it was told
-- another end then, of whose history the readings are
pub record IsRead (setting : Setting) (change : Label → Change) (switches : TableId) (start : List ℕ)
    (before own : List Worked) (reads : Worked) : Type 0 where
  pub first : PhaseEnd setting change switches start before
  pub last : PhaseEnd setting change switches start (reads ∷ (own ++ before))
  pub quiet : AllCalls IsQuiet (calls_of_all own)
  pub seen : AreOfEnd start last.history.t.log first.pen.view.seen reads.calls

-- such readings have one order of all changes in common with all actors before, with or without those that changed
-- nothing: they show what these left. The administration that the root was lent then stands for the labels in common
abbrev pub ReadLaw : Type 0
ReadLaw = (setting : Setting) (change : Label → Change) (switches : TableId) (start : List ℕ)
    (before own : List Worked) (reads : Worked) (some : List (List Call)) → IsRunsBoard start
    → (read : IsRead setting change switches start before own reads) → AreAllBut some (calls_of_all (own ++ before))
    → (shared : IsShared (opening_flags setting opening_objects) some (reads.calls ∷ []))
    × StandsFor setting change shared.labels read.last.admin
