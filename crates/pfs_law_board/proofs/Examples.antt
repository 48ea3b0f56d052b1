-- Two actors of two phases, and the root between them, worked: the root met the writer and read, which changes nothing, so
-- that it can be left out of those before a phase, while an actor that set a word can't. And a phase in which nobody did
-- anything ends as the one before it did.
use Rattle.std.proofs.Common.{List, [], ◌∷◌, inl, inr, refl, ℕ}
use Rattle.atomic_table.specs.Seated.{TableId}
use Rattle.pfs_admin.specs.declared.changes.Change.{Change}
use Rattle.pfs_board.specs.declared.view.Label.{Label}
use Rattle.pfs_board_store.specs.RootActors.{Worked}
use Rattle.pfs_classes.specs.declared.setting.Setting.{Setting}
use Rattle.pfs_levels.specs.Calls.{Call, Reads, Loads, Sets, Enters, Leaves, Meets}
use Rattle.pfs_rows.specs.declared.table.Seen.TheVariants.{Free}
use Rattle.pfs_law_board.specs.PhaseEnds.{AreAllBut, IsEnded, IsQuiet, PhaseEnd}

module _ (one two : Label) (versions later : List ℕ) where
  -- the first sets word 40 in its action
  abbrev first : List Call
  first = Leaves ∷ Sets 40 3 1 ∷ Meets versions ∷ Enters one [] ∷ []

  -- the root meets the writer behind it, and reads a row and a word
  abbrev root : List Call
  root = Loads 40 1 3 ∷ Reads 8450 (Free 0) ∷ Meets later ∷ []

  -- the second, of the next phase, finds the first one's label
  abbrev second : List Call
  second = Leaves ∷ Meets later ∷ Enters two (one ∷ []) ∷ []

  root_changes_nothing : IsQuiet root
  root_changes_nothing = tt

  first_does : IsQuiet first → ⊥
  first_does quiet = quiet

  without_the_root : AreAllBut (second ∷ first ∷ []) (second ∷ root ∷ first ∷ [])
  without_the_root = inl (refl, inr (tt, inl (refl, refl)))

  with_the_root : AreAllBut (second ∷ root ∷ first ∷ []) (second ∷ root ∷ first ∷ [])
  with_the_root = inl (refl, inl (refl, inl (refl, refl)))

  -- nothing but the root may be left out
  not_without_the_first : AreAllBut [] (root ∷ first ∷ []) → ⊥
  not_without_the_first but = but.1.0

module _ (setting : Setting) (change : Label → Change) (switches : TableId) (start : List ℕ) (before : List Worked) where
  nobody_did_anything : PhaseEnd setting change switches start before → IsEnded setting change switches start before (record { actors = []; own = [] })
  nobody_did_anything end = record { first = end; last = end; own = tt; began = tt }
