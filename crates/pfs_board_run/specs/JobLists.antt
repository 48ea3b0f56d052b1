-- Jobs of a phase over a board: as they are handed out, and as they come back.
use Rattle.std.specs.Prelude.{ℕ, ◌≡◌, ◌+◌, ◌≤◌, List, [], ◌∷◌, Some, IsSome, IsSomeAnd}
use Rattle.pfs_blocks.specs.BlockNeeds.{need_of_block}
use Rattle.pfs_board_root.specs.Roots.{IsKnown, RootView}
use Rattle.pfs_board_store.specs.RootActors.{Worked}
use Rattle.pfs_jobs.specs.declared.jobs.Job.{Job}
use Rattle.pfs_levels.specs.Calls.{Opening}
use Rattle.pfs_levels.specs.Views.{Store}
use Rattle.pfs_script.specs.declared.blocks.Block.{Block}
use Rattle.pfs_session.specs.SessionStates.{Book}
use Rattle.pfs_board_run.specs.BoardRuns.{share_of_each}
use Rattle.pfs_board_run.specs.declared.board.Ran.{Ran}

-- A job has the session, with room for its block besides, and a fresh actor that began so, with its share
pub record IsHandedOut {A : Type 0} (seen : A → Store) (start : Opening) (block : Block) (old : Book) (job : Job A)
    : Type 0 where
  pub session : IsSomeAnd job.session (λ session. (session.state ≡ old.state)
      × (session.journal.entries ≡ old.journal.entries)
      × ((need_of_block block).entries ≤ session.journal.room))
  pub answers : job.answers.items ≡ []
  pub began : (seen job.actor).reached start []
  pub left : (seen job.actor).left ≡ share_of_each
  pub draws : (seen job.actor).draws ≡ share_of_each

abbrev pub AreHandedOut : {A : Type 0} → (A → Store) → (ℕ → Opening) → ℕ → List Block → List Book → List (Job A)
    → Type 0
AreHandedOut seen opening n [] [] [] = Unit {0}
AreHandedOut seen opening n (block ∷ blocks) (old ∷ olds) (job ∷ jobs) =
    IsHandedOut seen (opening n) block old job × AreHandedOut seen opening (n + 1) blocks olds jobs
AreHandedOut seen opening n _ _ _ = ⊥

-- its session has played its block
abbrev pub IsPaused : {A : Type 0} → Job A → Type 0
IsPaused job = IsSome job.paused

-- their actors may be taken in
abbrev pub AreKnownJobs : {A : Type 0} → RootView → (A → Store) → List Worked → List (Job A) → Type 0
AreKnownJobs r seen [] [] = Unit {0}
AreKnownJobs r seen (w ∷ ws) (job ∷ jobs) =
    IsKnown r (λ a. (seen a).reached) w job.actor × AreKnownJobs r seen ws jobs
AreKnownJobs r seen _ _ = ⊥

-- what their actors may still use, all in all: publications, and tickets
abbrev pub publications_left : {A : Type 0} → (A → Store) → List (Job A) → ℕ
publications_left seen [] = 0
publications_left seen (job ∷ jobs) = (seen job.actor).left + publications_left seen jobs

abbrev pub tickets_left : {A : Type 0} → (A → Store) → List (Job A) → ℕ
tickets_left seen [] = 0
tickets_left seen (job ∷ jobs) = (seen job.actor).draws + tickets_left seen jobs

-- what their sessions left
abbrev pub AreResults : {A : Type 0} → List (Job A) → List Ran → Type 0
AreResults [] [] = Unit {0}
AreResults (job ∷ jobs) (ran ∷ rans) =
    (job.paused ≡ Some ran.paused) × (job.answers.items ≡ ran.answers.items) × AreResults jobs rans
AreResults _ _ = ⊥
