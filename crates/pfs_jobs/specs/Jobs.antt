-- Jobs at once, each beside its block of a script.
use Rattle.std.specs.Prelude.{◌≡◌, List, [], ◌∷◌, IfSome, IsSomeAnd}
use Rattle.pfs_actor.specs.ActionAsks.{MayConnect}
use Rattle.pfs_admin.specs.declared.changes.Change.{Change}
use Rattle.pfs_blocks.specs.BlockNeeds.{Within, need_of_block}
use Rattle.pfs_blocks.specs.PlayedBlocks.{HasPlayed, MayEnd}
use Rattle.pfs_board.specs.declared.view.Label.{Label}
use Rattle.pfs_classes.specs.declared.setting.Setting.{Setting}
use Rattle.pfs_law_plain.specs.LineSteps.{kinds_at}
use Rattle.pfs_levels.specs.Views.{Store}
use Rattle.pfs_play.specs.Errands.{LabelsName, StagesLie, kinds_after}
use Rattle.pfs_play.specs.Needs.{Ready}
use Rattle.pfs_runs.specs.ScriptLines.{changes_in}
use Rattle.pfs_runs.specs.SelectAnswers.{Answer}
use Rattle.pfs_script.specs.Marks.{written_out}
use Rattle.pfs_script.specs.declared.blocks.Block.{Block}
use Rattle.pfs_session.specs.SessionStates.{Book, nothing_held}
use Rattle.pfs_jobs.specs.declared.jobs.Job.{Job}

-- A session may play a block over an actor, in a run that fixes this and changes that: its labels name what the block
-- changes, it may connect where the block gives names, its lines may be played, it holds nothing, and all that the
-- block needs is there.
pub record MayPlayBlock (fixed : Setting) (change : Label → Change) (block : Block) (session : Book) (store : Store)
    : Type 0 where
  pub named : LabelsName change session.state.number session.state.actions (changes_in block)
  pub connects : IfSome block.connect (λ names. MayConnect session.state fixed names.user names.host)
  pub may : MayEnd session.state.opened.depth (kinds_at session.state) block.lines
  pub lie : StagesLie (kinds_at session.state)
  pub free : session.state.held ≡ nothing_held
  pub ready : Ready (need_of_block block) session store

-- It did just the block, from its actor as that was; the answers of its SELECTs, in this setting, stand behind those
-- before; and what the next block asks of it is there again.
pub record HasPlayedBlock (setting fixed : Setting) (change : Label → Change) (block : Block) (old new : Book)
    (before after : List Answer) (was now : Store) : Type 0 where
  pub did : HasPlayed setting fixed change block old new before after was.reached now.reached
  pub kinds : kinds_at new.state ≡ kinds_after (kinds_at old.state) (written_out block.lines)
  pub lie : StagesLie (kinds_at new.state)
  pub free : new.state.held ≡ nothing_held
  pub within : Within (need_of_block block) old new was now

-- a job waits for its block: its session is there, and may play it over its actor
abbrev pub IsWaiting : {A : Type 0} → Setting → (Label → Change) → (A → Store) → Block → Job A → Type 0
IsWaiting fixed change seen block job =
    IsSomeAnd job.session (λ session. MayPlayBlock fixed change block session (seen job.actor))

-- each of a list, beside its block
abbrev pub AreWaiting : {A : Type 0} → Setting → (Label → Change) → (A → Store) → List Block → List (Job A) → Type 0
AreWaiting fixed change seen [] [] = Unit {0}
AreWaiting fixed change seen (block ∷ blocks) (job ∷ jobs) =
    IsWaiting fixed change seen block job × AreWaiting fixed change seen blocks jobs
AreWaiting fixed change seen _ _ = ⊥

-- the session of a job did its block and is paused, unless memory ran out: then none is there any more
abbrev pub HasRun : {A : Type 0} → Setting → Setting → (Label → Change) → (A → Store) → Block → Job A → Job A → Type 0
HasRun setting fixed change seen block old new =
    IsSomeAnd old.session (λ session. IfSome new.paused (λ paused. HasPlayedBlock setting fixed change block session
    paused old.answers.items new.answers.items (seen old.actor) (seen new.actor)))

-- each of a list, in its place and beside its block
abbrev pub HaveRun : {A : Type 0} → Setting → Setting → (Label → Change) → (A → Store) → List Block → List (Job A)
    → List (Job A) → Type 0
HaveRun setting fixed change seen [] [] [] = Unit {0}
HaveRun setting fixed change seen (block ∷ blocks) (old ∷ olds) (new ∷ news) =
    HasRun setting fixed change seen block old new × HaveRun setting fixed change seen blocks olds news
HaveRun setting fixed change seen _ _ _ = ⊥
