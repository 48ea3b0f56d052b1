-- The store as a phase leaves it, by what is printed up to the phase.
use Rattle.std.specs.Prelude.{ℕ, ◌≡◌, ◌≤◌, ◌<◌, not, List, ◌++◌, length, take}
use Rattle.std.specs.List.{slice_index_or}
use Rattle.pfs_law_plain.specs.Spells.{Spell, AreSpells, calls_of}
use Rattle.pfs_levels.specs.JointCalls.{sets_of}
use Rattle.pfs_levels.specs.PlainStore.{AllAnswer, ops_of, slot_after, word_after}
use Rattle.pfs_levels.specs.declared.answers.Word.{Word}
use Rattle.pfs_levels.specs.declared.plain.Slot.{Slot}
use Rattle.pfs_model.specs.Actions.{settings_of}
use Rattle.pfs_model.specs.Chains.{Each, times, is_of, row_change, word_change, action_change, each_of, is_free_after}
use Rattle.pfs_model.specs.EntryPlaces.{Placed, up_to_phase}
use Rattle.pfs_model.specs.SetupFlags.{flags_at}
use Rattle.pfs_law_plain.specs.RunRules.{entries_of, labels_of, contents_of}

-- a row has had each change that is printed, it is free where these say so, and it holds the content of its version
pub record RowIsLeft (printed : List Placed) (content : ℕ → ℕ → List ℕ) (row : ℕ) (s : Slot) : Type 0 where
  pub version : s.version ≡ times (is_of row) (each_of row_change printed)
  pub allocated : s.allocated ≡ not (is_free_after printed row)
  pub content_is : s.content ≡ content row s.version

-- a switch word was set as often as is printed, and has the flags of its last set, or those that it opened with; no
-- later set has its version
pub record WordIsLeft (opening : List ℕ) (printed all : List Placed) (at : ℕ) (w : Word) : Type 0 where
  pub version : w.version ≡ times (is_of at) (each_of word_change printed)
  pub flags : w.flags ≡ flags_at (λ word. slice_index_or opening word 0) (settings_of printed) at w.version
  pub ever : w.flags ≡ flags_at (λ word. slice_index_or opening word 0) (settings_of all) at w.version

-- of what sessions do one after another, and the first of it, up to a phase; row 0 is the store's own, for actions
pub record IsLeft (opening : List ℕ) (phase : ℕ) (first all : List Spell) : Type 0 where
  pub rows : (row : ℕ) → 0 < row
      → RowIsLeft (up_to_phase phase (entries_of all)) (contents_of all) row (slot_after (ops_of (calls_of first)) row)
  pub words : (at : ℕ)
      → WordIsLeft opening (up_to_phase phase (entries_of all)) (entries_of all) at
      (word_after opening (sets_of (calls_of first)) at)
  pub labels : labels_of first
      ≡ take (length (each_of action_change (up_to_phase phase (entries_of all)))) (labels_of all)

abbrev pub LeftLaw : Type 0
LeftLaw = (opening : List ℕ) (stack : ℕ) (depths : ℕ → ℕ) (phase : ℕ) (first later : List Spell)
    → AreSpells stack depths (first ++ later) → AllAnswer opening (calls_of (first ++ later))
    → Each (λ spell. spell.phase ≤ phase) first → Each (λ spell. phase < spell.phase) later
    → IsLeft opening phase first (first ++ later)
