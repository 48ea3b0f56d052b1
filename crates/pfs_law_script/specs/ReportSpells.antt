-- What a report tells of spells, block by block and phase by phase.
use Rattle.std.specs.Prelude.{ℕ, ◌≡◌, ◌+◌, List, [], ◌∷◌, ◌++◌, length}
use Rattle.pfs_law_plain.specs.Spells.{Spell, parts_in}
use Rattle.pfs_classes.specs.declared.setting.Setting.{Setting}
use Rattle.pfs_law_plain.specs.ToldAnswers.{Answers}
use Rattle.pfs_journal.specs.declared.blocks.BlockReport.{BlockReport}
use Rattle.pfs_journal.specs.declared.report.PhaseParts.{PhaseParts}
use Rattle.pfs_model.specs.JournalCuts.{joined}
use Rattle.pfs_law_session.specs.JournalLaws.{entries_of}
use Rattle.pfs_runs.specs.SelectAnswers.{AreAnswers, selections_in}
use Rattle.pfs_script.specs.declared.blocks.Block.{Block}
use Rattle.pfs_script.specs.declared.blocks.Phase.{Phase}

-- of a spell at a block of the phase of this number: its session, its journal, and the answers of its SELECTs
pub record IsTold (setting : Setting) (number : ℕ) (block : Block) (spell : Spell) (report : BlockReport) : Type 0 where
  pub phase : spell.phase ≡ number
  pub session : spell.session ≡ block.session
  pub reported : report.session ≡ block.session
  pub entries : report.entries ≡ joined (entries_of (parts_in spell.doings))
  pub answers : AreAnswers (Answers setting) (selections_in block) (parts_in spell.doings) report.answers

abbrev pub AreTold : Setting → ℕ → List Block → List Spell → List BlockReport → Type 0
AreTold setting number [] [] [] = Unit {0}
AreTold setting number (block ∷ blocks) (spell ∷ spells) (report ∷ reports) =
    IsTold setting number block spell report × AreTold setting number blocks spells reports
AreTold setting number _ _ _ = ⊥

-- the phase of this number has the first of these spells, and the rest are those of the phases behind it
pub record IsPhaseTold (setting : Setting) (number : ℕ) (phase : Phase) (report : PhaseParts)
    (spells first rest : List Spell) : Type 0 where
  pub split : spells ≡ first ++ rest
  pub numbered : report.number ≡ number
  pub blocks : AreTold setting number phase.blocks first report.blocks

-- phases from this number on, each with the report beside it
abbrev pub ArePhasesTold : Setting → ℕ → List Phase → List PhaseParts → List Spell → Type 0
ArePhasesTold setting number [] [] spells = spells ≡ []
ArePhasesTold setting number (phase ∷ phases) (report ∷ reports) spells =
    (first : List Spell) × (rest : List Spell) × IsPhaseTold setting number phase report spells first rest
    × ArePhasesTold setting (number + 1) phases reports rest
ArePhasesTold setting number _ _ spells = ⊥

-- One block more in a phase; one phase more, with the number behind those so far; and one block more in the last phase,
-- which has the same number in the report of it.
pub record AreToldOn : Type 0 where
  pub block : (setting : Setting) (number : ℕ) (blocks : List Block) (spells : List Spell) (reports : List BlockReport)
      (block : Block) (spell : Spell) (report : BlockReport) → AreTold setting number blocks spells reports
      → IsTold setting number block spell report
      → AreTold setting number (blocks ++ block ∷ []) (spells ++ spell ∷ []) (reports ++ report ∷ [])
  pub phase : (setting : Setting) (number : ℕ) (phases : List Phase) (reports : List PhaseParts) (spells : List Spell)
      (phase : Phase) (report : PhaseParts) (more : List Spell) → ArePhasesTold setting number phases reports spells
      → report.number ≡ number + length phases → AreTold setting report.number phase.blocks more report.blocks
      → ArePhasesTold setting number (phases ++ phase ∷ []) (reports ++ report ∷ []) (spells ++ more)
  pub last : (setting : Setting) (number : ℕ) (phases : List Phase) (reports : List PhaseParts) (spells : List Spell)
      (phase now : Phase) (report next : PhaseParts) (block : Block) (spell : Spell) (told : BlockReport)
      → ArePhasesTold setting number (phases ++ phase ∷ []) (reports ++ report ∷ []) spells
      → length phases ≡ length reports → now.blocks ≡ phase.blocks ++ block ∷ [] → next.number ≡ report.number
      → next.blocks ≡ report.blocks ++ told ∷ [] → IsTold setting report.number block spell told
      → ArePhasesTold setting number (phases ++ now ∷ []) (reports ++ next ∷ []) (spells ++ spell ∷ [])
