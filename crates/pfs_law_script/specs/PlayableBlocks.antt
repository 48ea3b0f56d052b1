-- When the blocks of a script may be played, phase after phase, each in its session.
use Rattle.std.specs.Prelude.{ℕ, ◌≡◌, ◌≤◌, ◌<◌, ◌+◌, ◌*◌, Bool, true, false, List, [], ◌∷◌, ◌++◌, length, map, None, IfSome, MatchOption}
use Rattle.std.specs.List.{All, sum_by}
use Rattle.pfs_classes.specs.declared.setting.Setting.{Setting}
use Rattle.pfs_event.specs.declared.kind.EventKind.{EventKind}
use Rattle.pfs_script.specs.declared.blocks.Block.{Block}
use Rattle.pfs_script.specs.declared.blocks.BlockLine.{BlockLine}
use Rattle.pfs_script.specs.declared.blocks.BlockLine.TheVariants as said
use Rattle.pfs_script.specs.declared.blocks.Phase.{Phase}
use Rattle.pfs_script.specs.Brackets.{open_in, kinds_of}
use Rattle.pfs_script.specs.Events.{blocks_for, lines_for}
use Rattle.pfs_script.specs.Marks.{mark_of, written_out}
use Rattle.pfs_script.specs.KnownClasses.{AreDistinct}
use Rattle.pfs_script.specs.Scripts.{IsScript}
use Rattle.pfs_play.specs.Errands.{actions_on, errand_on, kinds_after}
use Rattle.pfs_play.specs.Repeats.{AllMayPlay}
use Rattle.pfs_play.specs.Errand.{Errand}
use Rattle.pfs_play.specs.Errand as ask

-- the kinds of the events that lines leave open, from the innermost on
abbrev pub kinds_left : List BlockLine → List EventKind
kinds_left lines = kinds_of (open_in (map mark_of lines))

-- those of a session behind phases
abbrev pub kinds_before : ℕ → List Phase → List EventKind
kinds_before session phases = kinds_left (lines_for session phases)

-- how many lines blocks have, those of a repeat once
abbrev pub lines_among : List Block → ℕ
lines_among blocks = sum_by (λ (block : Block). length block.lines) blocks

-- and with each repeat written out; the same of phases
abbrev pub written_among : List Block → ℕ
written_among blocks = sum_by (λ (block : Block). length (written_out block.lines)) blocks

abbrev pub written_in : List Phase → ℕ
written_in phases = sum_by (λ (phase : Phase). written_among phase.blocks) phases

-- how many actions these are beside connects and quits: a change by SQL is one
abbrev pub actions_among : List Block → ℕ
actions_among blocks = sum_by (λ (block : Block). actions_on (written_out block.lines)) blocks

abbrev pub actions_in : List Phase → ℕ
actions_in phases = sum_by (λ (phase : Phase). actions_among phase.blocks) phases

-- and how many of these truncate
abbrev pub truncations_of : Errand → ℕ
truncations_of (ask.Truncate what) = 1
truncations_of _ = 0

abbrev pub truncations_on : List BlockLine → ℕ
truncations_on [] = 0
truncations_on (line ∷ lines) = truncations_of (errand_on line) + truncations_on lines

abbrev pub truncations_among : List Block → ℕ
truncations_among blocks = sum_by (λ (block : Block). truncations_on (written_out block.lines)) blocks

abbrev pub truncations_in : List Phase → ℕ
truncations_in phases = sum_by (λ (phase : Phase). truncations_among phase.blocks) phases

abbrev pub end_of : Bool → List BlockLine
end_of true = said.Quit ∷ []
end_of false = []

-- how many blocks phases have
abbrev pub blocks_in : List Phase → ℕ
blocks_in phases = sum_by (λ (phase : Phase). length phase.blocks) phases

-- The lines of a block, but for a quit at their end, may be played where those events are open that its session left
-- open, under each depth that isn't below the number of the session's lines so far, those of the block among them: each
-- line opens one event at most. They leave open what they do as they stand, at a quit nothing, and behind it the
-- session has no block.
pub record HasBody (before after : List Phase) (block : Block) : Type 0 where
  pub body : List BlockLine
  pub quits : Bool
  pub lines : block.lines ≡ body ++ end_of quits
  pub plays : (depth : ℕ) → lines_among (blocks_for block.session before) + length block.lines ≤ depth
      → AllMayPlay 62 depth (kinds_before block.session before) None body
  pub behind : kinds_left (lines_for block.session before ++ written_out block.lines)
      ≡ kinds_after (kinds_before block.session before) block.lines
  pub closed : quits ≡ true → kinds_after (kinds_before block.session before) body ≡ []
  pub last : quits ≡ true → blocks_for block.session after ≡ []

-- a block, behind these phases and before those: its session has a number from 1 to 64 and connects at its first block
-- and at no other, its lines may be played, with each repeat written out they are at most 200,000, and so are the lines
-- of the session up to their end, those of a repeat once
pub record IsPlayableBlock (before after : List Phase) (block : Block) : Type 0 where
  pub low : 1 ≤ block.session
  pub high : block.session ≤ 64
  pub first : MatchOption block.connect (¬ (blocks_for block.session before ≡ []))
      (λ connect. blocks_for block.session before ≡ [])
  pub body : HasBody before after block
  pub short : length (written_out block.lines) ≤ 200000
  pub few : lines_among (blocks_for block.session before) + length block.lines ≤ 200000

-- a phase, behind these phases and before those: its blocks are of different sessions, and each may be played
pub record IsPlayable (before : List Phase) (phase : Phase) (after : List Phase) : Type 0 where
  pub sessions : AreDistinct (map (λ (block : Block). block.session) phase.blocks)
  pub blocks : All (IsPlayableBlock before after) phase.blocks

-- of each phase of any script
abbrev pub PlayableLaw : Type 0
PlayableLaw = (text : List ℕ) (setting : Setting) (phases before : List Phase) (phase : Phase) (after : List Phase)
    → IsScript text setting phases → phases ≡ before ++ phase ∷ after → IsPlayable before phase after

-- with each repeat written out all blocks of a script have at most 200,000 lines together
abbrev pub TotalLaw : Type 0
TotalLaw = (text : List ℕ) (setting : Setting) (phases : List Phase) → IsScript text setting phases
    → written_in phases ≤ 200000

-- and of the weight of a script, 5,000,000, each action among them has 300, a truncation 20,000: so these are at most
-- 16,666 actions, and 250 truncations
abbrev pub ActionsLaw : Type 0
ActionsLaw = (text : List ℕ) (setting : Setting) (phases : List Phase) → IsScript text setting phases
    → 300 * actions_in phases + 19700 * truncations_in phases ≤ 5000000

-- each block is begun by a line, so there are as few
abbrev pub FewLaw : Type 0
FewLaw = (text : List ℕ) (setting : Setting) (phases : List Phase) → IsScript text setting phases
    → blocks_in phases ≤ 200000

-- and a session has as few lines, those of a repeat once
abbrev pub LinesLaw : Type 0
LinesLaw = (text : List ℕ) (setting : Setting) (phases : List Phase) (session : ℕ)
    → IsScript text setting phases → lines_among (blocks_for session phases) ≤ 200000

-- a block that connects its session gives names of the setting
abbrev pub IsNamed : Setting → Block → Type 0
IsNamed setting block =
    IfSome block.connect (λ names. (names.user < length setting.names) × (names.host < length setting.names))

abbrev pub NamedLaw : Type 0
NamedLaw = (text : List ℕ) (setting : Setting) (phases : List Phase) → IsScript text setting phases
    → All (λ phase. All (IsNamed setting) phase.blocks) phases

-- a statement's digest text is one of so many that have a place, or has none
abbrev pub IsTextedLine : ℕ → BlockLine → Type 0
IsTextedLine places (said.Statement class digest) = IfSome digest (λ place. place < places)
IsTextedLine places _ = Unit {0}

abbrev pub AreTextedLines : ℕ → List BlockLine → Type 0
AreTextedLines places [] = Unit {0}
AreTextedLines places (line ∷ lines) = IsTextedLine places line × AreTextedLines places lines

-- the lines of a script name digest texts of the setting
abbrev pub TextedLaw : Type 0
TextedLaw = (text : List ℕ) (setting : Setting) (phases : List Phase) → IsScript text setting phases
    → All (λ phase. All (λ (block : Block). AreTextedLines (length setting.digests) block.lines) phase.blocks) phases
