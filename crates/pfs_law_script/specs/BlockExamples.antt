-- A script of two sessions and two phases, worked, a repeat, and what may not be played.
use Rattle.std.specs.Prelude.{◌≡◌, [], ◌∷◌, Some}
use Rattle.pfs_classes.specs.declared.classes.ClassRef.TheVariants as refs
use Rattle.pfs_script.specs.declared.blocks.Block.{Block}
use Rattle.pfs_script.specs.declared.blocks.BlockLine.TheVariants as said
use Rattle.pfs_script.specs.declared.blocks.Phase.{Phase}
use Rattle.pfs_runs.specs.ScriptExamples.{waiting, connecting, quitting}
use Rattle.pfs_law_script.specs.PlayableBlocks.{lines_among, written_in, IsPlayable}

-- session 1 connects and waits, session 2 connects
abbrev pub opening : Phase
opening = record { blocks = waiting ∷ connecting ∷ [] }

-- session 1 quits
abbrev pub closing : Phase
closing = record { blocks = quitting ∷ [] }

-- session 3 connects and waits three times
abbrev pub repeating : Block
repeating = record {
  session = 3;
  connect = Some (record { user = 0; host = 1 });
  lines = said.Repeat 3 ∷ said.Wait (refs.Class 6) ∷ said.End ∷ said.Done ∷ [];
}

-- Each phase of this script may be played. A block that goes on with no block before it may not, nor may a session that
-- comes again behind its quit, or twice in a phase. A repeat's lines count once as they stand.
pub record WorkedPhases : Type 0 where
  pub first : IsPlayable [] opening (closing ∷ [])
  pub second : IsPlayable (opening ∷ []) closing []
  pub repeats : IsPlayable [] (record { blocks = repeating ∷ [] }) []
  pub once : lines_among (repeating ∷ []) ≡ 4
  pub often : written_in (record { blocks = repeating ∷ [] } ∷ opening ∷ closing ∷ []) ≡ 11
  pub alone : ¬ IsPlayable [] closing []
  pub again : ¬ IsPlayable (opening ∷ []) closing (closing ∷ [])
  pub twice : ¬ IsPlayable [] (record { blocks = waiting ∷ waiting ∷ [] }) []
