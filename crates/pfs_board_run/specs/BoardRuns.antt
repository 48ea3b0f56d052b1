-- What the sessions of a phase may do over a board, and did, each over seats of its own.
use Rattle.std.specs.Prelude.{ℕ, ◌≡◌, ◌+◌, ◌^◌, ◌<◌, ◌≤◌, List, [], ◌∷◌, ◌++◌, IfSome, length}
use Rattle.pfs_actor.specs.ActionAsks.{MayConnect}
use Rattle.pfs_admin.specs.OpeningState.{opening_flags}
use Rattle.pfs_admin.specs.declared.changes.Change.{Change}
use Rattle.pfs_blocks.specs.BlockNeeds.{need_of_block}
use Rattle.pfs_blocks.specs.PlayedBlocks.{HasPlayed, MayEnd}
use Rattle.pfs_board.specs.declared.view.Label.{Label}
use Rattle.pfs_board_root.specs.Roots.{HasSplit, HasTakenIn, RootView, opening_at}
use Rattle.pfs_board_store.specs.RootActors.{Worked}
use Rattle.pfs_classes.specs.declared.setting.Setting.{Setting}
use Rattle.pfs_law_plain.specs.LineSteps.{kinds_at}
use Rattle.pfs_levels.specs.Calls.{Call, Opening}
use Rattle.pfs_matching.specs.ObjectRules.{opening_objects}
use Rattle.pfs_play.specs.Errands.{LabelsName, StagesLie, actions_on, kinds_after}
use Rattle.pfs_runs.specs.ScriptLines.{changes_in}
use Rattle.pfs_script.specs.Marks.{written_out}
use Rattle.pfs_script.specs.declared.blocks.Block.{Block}
use Rattle.pfs_session.specs.SessionStates.{Book, nothing_held}
use Rattle.pfs_board_run.specs.declared.board.Ran.{Ran}

-- how many publications, and as many tickets, each actor may use: 2^34
abbrev pub share_of_each : ℕ
share_of_each = 17179869184

-- A session may play a block, once there is room for it: its labels name what the block changes, it may connect where
-- the block gives names, its lines may be played, and it holds nothing. The block is no longer than a script's
pub record MayRun (fixed : Setting) (change : Label → Change) (block : Block) (session : Book) : Type 0 where
  pub named : LabelsName change session.state.number session.state.actions (changes_in block)
  pub connects : IfSome block.connect (λ names. MayConnect session.state fixed names.user names.host)
  pub may : MayEnd session.state.opened.depth (kinds_at session.state) block.lines
  pub lie : StagesLie (kinds_at session.state)
  pub free : session.state.held ≡ nothing_held
  pub early : session.state.drawn + (need_of_block block).numbers < 2 ^ 64
  pub rare : session.state.actions + (need_of_block block).actions < 2 ^ 64
  pub short : length (written_out block.lines) ≤ 200000
  pub few : actions_on (written_out block.lines) ≤ 200000

-- each of a list, beside its block
abbrev pub AllMayRun : Setting → (Label → Change) → List Block → List Book → Type 0
AllMayRun fixed change [] [] = Unit {0}
AllMayRun fixed change (block ∷ blocks) (session ∷ sessions) =
    MayRun fixed change block session × AllMayRun fixed change blocks sessions
AllMayRun fixed change _ _ = ⊥

-- just this opening and these calls
abbrev pub IsAt : Opening → List Call → Opening → List Call → Type 0
IsAt start calls s c = (s ≡ start) × (c ≡ calls)

-- A session played its block, and nothing else, over an actor that began so and made just these calls. The answers of
-- its SELECTs, in this setting, stand beside it
pub record HasRunBlock (setting fixed : Setting) (change : Label → Change) (start : Opening) (block : Block)
    (old : Book) (ran : Ran) (w : Worked) : Type 0 where
  pub start_is : w.start ≡ start
  pub played : HasPlayed setting fixed change block old ran.paused [] ran.answers.items (IsAt start [])
      (IsAt w.start w.calls)
  pub kinds : kinds_at ran.paused.state ≡ kinds_after (kinds_at old.state) (written_out block.lines)
  pub lie : StagesLie (kinds_at ran.paused.state)
  pub free : ran.paused.state.held ≡ nothing_held
  pub drawn : ran.paused.state.drawn ≤ old.state.drawn + (need_of_block block).numbers
  pub actions : ran.paused.state.actions ≤ old.state.actions + (need_of_block block).actions
  pub number : ran.paused.state.number ≡ old.state.number
  pub depth : ran.paused.state.opened.depth ≡ old.state.opened.depth

-- each of a list, in its place, over the actors of the next numbers
abbrev pub HaveRunBlocks : Setting → Setting → (Label → Change) → (ℕ → Opening) → ℕ → List Block → List Book → List Ran
    → List Worked → Type 0
HaveRunBlocks setting fixed change opening n [] [] [] [] = Unit {0}
HaveRunBlocks setting fixed change opening n (block ∷ blocks) (old ∷ olds) (ran ∷ rans) (w ∷ ws) =
    HasRunBlock setting fixed change (opening n) block old ran w
    × HaveRunBlocks setting fixed change opening (n + 1) blocks olds rans ws
HaveRunBlocks setting fixed change opening n _ _ _ _ = ⊥

-- the actors as a root has them that took them in in this order
abbrev pub newest_first : List Worked → List Worked
newest_first [] = []
newest_first (w ∷ ws) = newest_first ws ++ w ∷ []

-- how many publications, and how many tickets, blocks use up at most, all in all
abbrev pub spare_of : List Block → ℕ
spare_of [] = 0
spare_of (block ∷ blocks) = (need_of_block block).spare + spare_of blocks

abbrev pub tickets_of : List Block → ℕ
tickets_of [] = 0
tickets_of (block ∷ blocks) = (need_of_block block).tickets + tickets_of blocks

-- All sessions of a phase played their blocks, each over an actor of its own, which the root split off and took in,
-- both in the blocks' order. What the blocks didn't use up is the root's again
pub record HasRunPhase (setting fixed : Setting) (change : Label → Change) (blocks : List Block) (sessions : List Book)
    (rans : List Ran) (old new : RootView) : Type 0 where
  pub ws : List Worked
  pub each : HaveRunBlocks setting fixed change
      (opening_at (opening_flags fixed opening_objects) old share_of_each share_of_each) 1 blocks sessions rans ws
  pub between : RootView
  pub split : HasSplit (length blocks) share_of_each share_of_each old between
  pub taken : HasTakenIn fixed change (newest_first ws) between new
  pub spare : old.seat.allowance ≤ new.seat.allowance + spare_of blocks
  pub tickets : old.draws.draws ≤ new.draws.draws + tickets_of blocks
