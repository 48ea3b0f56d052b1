-- What the journals of sessions that run one after another on one plain store have in common.
use Rattle.std.specs.Prelude.{ℕ, List}
use Rattle.std.specs.List.{slice_index_or}
use Rattle.pfs_levels.specs.PlainStore.{AllAnswer}
use Rattle.pfs_model.specs.Actions.{settings_of}
use Rattle.pfs_model.specs.EventNumbers.{AreNumbered}
use Rattle.pfs_model.specs.EntryPlaces.{Placed, places, IsShaped}
use Rattle.pfs_model.specs.PlainAgreement.{IsPlain, AreAlone}
use Rattle.pfs_model.specs.SetupFlags.{AreJudged, flags_at}
use Rattle.pfs_law_session.specs.Stints.{Stint, blocks_of}
use Rattle.pfs_law_plain.specs.Spells.{Spell, AreSpells, stints_of, calls_of}

-- the flags of a word's version, by the sets that are printed, and at first these
abbrev pub printed : List ℕ → List Placed → ℕ → ℕ → ℕ
printed flags all = flags_at (λ word. slice_index_or flags word 0) (settings_of all)

-- the journals are what their lines ask for, each line agrees with those before it, each verdict is that of the flags
-- at the versions that it names, and each event has its numbers
pub record IsAlone (stack : ℕ) (flags : List ℕ) (stints : List Stint) : Type 0 where
  pub shaped : IsShaped (blocks_of stints)
  pub plain : IsPlain (places (blocks_of stints))
  pub alone : AreAlone (places (blocks_of stints))
  pub judged : AreJudged stack (printed flags (places (blocks_of stints))) (places (blocks_of stints))
  pub numbered : AreNumbered (places (blocks_of stints))

abbrev pub AloneLaw : Type 0
AloneLaw = (flags : List ℕ) (stack : ℕ) (depths : ℕ → ℕ) (spells : List Spell) → AreSpells stack depths spells
    → AllAnswer flags (calls_of spells) → IsAlone stack flags (stints_of spells)
