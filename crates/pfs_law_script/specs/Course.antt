-- The course of a run: what sessions did at the blocks of a script, one after another.
use Rattle.std.specs.Prelude.{ℕ, ◌≡◌, ◌+◌, ◌==◌, Bool, true, false, cond, List, [], ◌∷◌, ◌++◌, length, Option, Some, None}
use Rattle.std.specs.List.{flat_map}
use Rattle.pfs_admin.specs.AdministrationStates.{State as Administration}
use Rattle.pfs_admin.specs.declared.changes.Change.{Change}
use Rattle.pfs_law_plain.specs.Spells.{Spell, AreSpells, parts_in, stints_of}
use Rattle.pfs_board.specs.declared.view.Label.{Label}
use Rattle.pfs_classes.specs.declared.setting.Setting.{Setting}
use Rattle.pfs_law_session.specs.Deeds.{Deed, Connecting, Closing}
use Rattle.pfs_law_session.specs.Stints.{state_by, over_by}
use Rattle.pfs_play.specs.Errands.{AreFor, asks_on}
use Rattle.pfs_law_plain.specs.ActionFolds.{AreFolded, AllConnectFirst}
use Rattle.pfs_runs.specs.ScriptLines.{changes_in}
use Rattle.pfs_script.specs.declared.blocks.Block.{Block}
use Rattle.pfs_script.specs.declared.blocks.BlockLine.{BlockLine}
use Rattle.pfs_script.specs.declared.blocks.Connect.{Connect}
use Rattle.pfs_script.specs.declared.blocks.Phase.{Phase}
use Rattle.pfs_script.specs.Marks.{written_out}
use Rattle.pfs_session.specs.SessionStates.{State, fresh}

-- a block that gives names asks its session to connect first
abbrev pub connecting : Option Connect → List (Administration → Deed)
connecting None = []
connecting (Some names) = (λ admin. Connecting admin names.user names.host) ∷ []

-- what a block asks of its session: its connect, its lines, and its end
abbrev pub asks_of : Option Connect → List BlockLine → List (Administration → Deed)
asks_of connect lines = connecting connect ++ (asks_on lines ++ (λ admin. Closing) ∷ [])

-- a block of a script in its phase
pub record PhasedBlock : Type 0 where
  pub phase : ℕ
  pub block : Block

abbrev pub phased : ℕ → List Block → List PhasedBlock
phased phase [] = []
phased phase (block ∷ blocks) = record { phase = phase; block = block } ∷ phased phase blocks

-- all blocks of phases, of which the first has this number
abbrev pub numbered : ℕ → List Phase → List PhasedBlock
numbered number [] = []
numbered number (phase ∷ phases) = phased number phase.blocks ++ numbered (number + 1) phases

-- those of a session, and its administration lines among them
abbrev pub own_blocks : ℕ → List PhasedBlock → List Block
own_blocks session [] = []
own_blocks session (one ∷ others) =
    cond (one.block.session == session) (one.block ∷ []) [] ++ own_blocks session others

abbrev pub own_changes : ℕ → List PhasedBlock → List Change
own_changes session done = flat_map changes_in (own_blocks session done)

-- a session as these spells left it, and whether it is over
abbrev pub session_at : Setting → (ℕ → ℕ) → List Spell → ℕ → State
session_at setting depths spells session =
    state_by session (fresh session setting.limits.statement_stack (depths session)) (stints_of spells)

abbrev pub over_at : List Spell → ℕ → Bool
over_at spells session = over_by session false (stints_of spells)

-- a spell did what a block asks for: it connects where the block gives names, and each repeat is written out
pub record IsSpellOf (done : PhasedBlock) (spell : Spell) : Type 0 where
  pub phase : spell.phase ≡ done.phase
  pub session : spell.session ≡ done.block.session
  pub asked : AreFor (asks_of done.block.connect (written_out done.block.lines)) (parts_in spell.doings)

-- one for each block, in their order
abbrev pub AreSpellsOf : List PhasedBlock → List Spell → Type 0
AreSpellsOf [] [] = Unit {0}
AreSpellsOf (one ∷ others) (spell ∷ spells) = IsSpellOf one spell × AreSpellsOf others spells
AreSpellsOf _ _ = ⊥

-- What the sessions of a script did at these blocks, one spell for each, where a label changes this: all that is asked
-- of spells that are to keep the rules of a run but the answers of their store and the facts of their events. Each
-- session keeps its number, and has made one action for each of its administration lines.
pub record IsCourse (setting : Setting) (change : Label → Change) (depths : ℕ → ℕ) (done : List PhasedBlock)
    (spells : List Spell) : Type 0 where
  pub are_spells : AreSpells setting.limits.statement_stack depths spells
  pub folded : AreFolded setting change spells
  pub first : AllConnectFirst spells
  pub blocks : AreSpellsOf done spells
  pub numbers : (session : ℕ) → (session_at setting depths spells session).number ≡ session
  pub counted : (session : ℕ) → (session_at setting depths spells session).actions ≡ length (own_changes session done)
