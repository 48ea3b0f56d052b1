-- The course before anything was done, and behind one block more.
use Rattle.std.specs.Prelude.{ℕ, ◌≡◌, ◌≤◌, ◌==◌, false, List, [], ◌∷◌, ◌++◌, IfSome}
use Rattle.pfs_actor.specs.ActorDeeds.{AreLabelled}
use Rattle.pfs_admin.specs.declared.changes.Change.{Change}
use Rattle.pfs_law_plain.specs.ActionFolds.{DoingsFolded}
use Rattle.pfs_law_plain.specs.Spells.{Doing, Spell, parts_in}
use Rattle.pfs_board.specs.declared.view.Label.{Label}
use Rattle.pfs_classes.specs.declared.setting.Setting.{Setting}
use Rattle.pfs_model.specs.Chains.{Each}
use Rattle.pfs_law_session.specs.JournalLaws.{AreParts, MayDoAll, state_behind, over_behind}
use Rattle.pfs_law_session.specs.Stints.{resumed}
use Rattle.pfs_law_script.specs.PlayableBlocks.{HasBody}
use Rattle.pfs_runs.specs.ScriptLines.{change_in}
use Rattle.pfs_script.specs.declared.blocks.Phase.{Phase}
use Rattle.pfs_script.specs.Marks.{written_out}
use Rattle.pfs_session.specs.SessionStates.{fresh}
use Rattle.pfs_play.specs.Errands.{AreFor}
use Rattle.pfs_law_script.specs.Course.{PhasedBlock, IsCourse, asks_of, numbered, own_blocks, session_at, over_at}

-- before anything each session is as it begins
pub record IsBegun (setting : Setting) (change : Label → Change) (depths : ℕ → ℕ) : Type 0 where
  pub course : IsCourse setting change depths [] []
  pub sessions : (session : ℕ)
      → session_at setting depths [] session ≡ fresh session setting.limits.statement_stack (depths session)
  pub none_over : (session : ℕ) → over_at [] session ≡ false

abbrev pub NoCourseLaw : Type 0
NoCourseLaw = (setting : Setting) (change : Label → Change) (depths : ℕ → ℕ) → IsBegun setting change depths

-- The block is next in the script behind those that are done: these stand in no later phase, where it gives names it is
-- the first of its session, and its lines are as `laws::playable` of pfs_law_script has them.
pub record IsNextBlock (phases : List Phase) (done : List PhasedBlock) (one : PhasedBlock) : Type 0 where
  pub rest : List PhasedBlock
  pub all : numbered 1 phases ≡ done ++ one ∷ rest
  pub low : Each (λ earlier. earlier.phase ≤ one.phase) done
  pub first : IfSome one.block.connect (λ names. own_blocks one.block.session done ≡ [])
  pub before : List Phase
  pub after : List Phase
  pub body : HasBody before after one.block

-- its session, as the spells left it and not yet over, did what it asks for, each action with the session's label and
-- before the administration that the labels before it make
pub record IsPlayed (setting : Setting) (change : Label → Change) (depths : ℕ → ℕ) (spells : List Spell)
    (one : PhasedBlock) (doings : List Doing) : Type 0 where
  pub goes_on : over_at spells one.block.session ≡ false
  pub are_parts : AreParts (session_at setting depths spells one.block.session) (parts_in doings)
  pub may : MayDoAll false (session_at setting depths spells one.block.session) (parts_in doings)
  pub labelled : AreLabelled (session_at setting depths spells one.block.session) doings
  pub folded : DoingsFolded setting change doings
  pub asked : AreFor (asks_of one.block.connect (written_out one.block.lines)) (parts_in doings)

abbrev pub spell_at : PhasedBlock → List Doing → Spell
spell_at one doings = record { phase = one.phase; session = one.block.session; doings = doings }

-- the course with this block, and all sessions behind it
pub record IsOneMore (setting : Setting) (change : Label → Change) (depths : ℕ → ℕ) (done : List PhasedBlock)
    (spells : List Spell) (one : PhasedBlock) (doings : List Doing) : Type 0 where
  pub course : IsCourse setting change depths (done ++ one ∷ []) (spells ++ spell_at one doings ∷ [])
  pub own : session_at setting depths (spells ++ spell_at one doings ∷ []) one.block.session
      ≡ resumed (state_behind (session_at setting depths spells one.block.session) (parts_in doings))
  pub own_over : over_at (spells ++ spell_at one doings ∷ []) one.block.session ≡ over_behind false (parts_in doings)
  pub others : (session : ℕ) → (one.block.session == session) ≡ false
      → session_at setting depths (spells ++ spell_at one doings ∷ []) session
      ≡ session_at setting depths spells session
  pub others_over : (session : ℕ) → (one.block.session == session) ≡ false
      → over_at (spells ++ spell_at one doings ∷ []) session ≡ over_at spells session

abbrev pub OneMoreLaw : Type 0
OneMoreLaw = (setting : Setting) (phases : List Phase) (depths : ℕ → ℕ) (done : List PhasedBlock) (spells : List Spell)
    (one : PhasedBlock) (doings : List Doing) → IsCourse setting (change_in phases) depths done spells
    → IsNextBlock phases done one → IsPlayed setting (change_in phases) depths spells one doings
    → IsOneMore setting (change_in phases) depths done spells one doings
