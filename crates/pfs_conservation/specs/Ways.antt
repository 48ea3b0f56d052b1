-- The way of an event: from its home to the rows that its session's place leads to.
use Rattle.std.specs.Prelude.{◌≡◌, ℕ, suc, ◌≤◌, ◌==◌, cond, false, List, [], ◌∷◌, ◌++◌, Option, Some, None, unwrap_or}
use Rattle.pfs_conservation.specs.RowChains.{Change}
use Rattle.pfs_conservation.specs.Removals.{removal}
use Rattle.pfs_conservation.specs.Journeys.{times_counted, is_from, first_from_one}
use Rattle.pfs_conservation.specs.RowMoves.{Move, sends}

-- what leaves the one row comes to the other
pub record Step : Type 0 where
  pub from : ℕ
  pub to : ℕ

-- the rows of one cell that a session's events can come to
pub record Rows : Type 0 where
  pub home : ℕ
  pub account : Option ℕ
  pub user : Option ℕ
  pub host : Option ℕ
  pub global : ℕ

abbrev pub step_to : ℕ → Option ℕ → List Step
step_to from None = []
step_to from (Some row) = record { from = from; to = row } ∷ []

-- the steps, the last first: to the account; from there, or from the thread, to user and host; from the host, or from
-- there, to the global row
abbrev pub steps_of : Rows → List Step
steps_of rows =
    record { from = unwrap_or rows.host (unwrap_or rows.account rows.home); to = rows.global }
    ∷ (step_to (unwrap_or rows.account rows.home) rows.host
    ++ (step_to (unwrap_or rows.account rows.home) rows.user ++ step_to rows.home rows.account))

-- the row that an event comes from to this one
abbrev pub before_by : List Step → ℕ → Option ℕ
before_by [] row = None
before_by (step ∷ steps) row = cond (step.to == row) (Some step.from) (before_by steps row)

-- the action at which it leaves a row
abbrev pub leave_by : (ℕ → List Change) → ℕ → ℕ → List Step → ℕ → Option ℕ
leave_by chains event home [] row = cond (row == home) (removal event (chains home)) None
leave_by chains event home (step ∷ steps) row =
    cond (step.to == row) (first_from_one (leave_by chains event home steps step.from) (chains step.to))
    (leave_by chains event home steps row)

-- no step leads back
abbrev pub Apart : ℕ → List Step → Type 0
Apart row [] = Unit {0}
Apart row (step ∷ steps) = ((row == step.from) ≡ false) × ((step.to == row) ≡ false) × Apart row steps

abbrev pub Leads : ℕ → List Step → Type 0
Leads home [] = Unit {0}
Leads home (step ∷ steps) = ((step.to == home) ≡ false) × ((step.to == step.from) ≡ false) × Apart step.to steps
    × Leads home steps

abbrev pub StepsClimb : (ℕ → ℕ) → List Step → Type 0
StepsClimb level [] = Unit {0}
StepsClimb level (step ∷ steps) = (suc (level step.from) ≤ level step.to) × StepsClimb level steps

-- An event's session has these rows: it is counted once, at home, and each action at which it leaves a row gives to
-- the next rows on its way.
pub record IsPlaced (chains : ℕ → List Change) (level : ℕ
    → ℕ) (moves : List Move) (event home : ℕ) (steps : List Step) : Type 0 where
  pub counted : (row : ℕ) → times_counted event (chains row) ≡ cond (row == home) 1 0
  pub leads : Leads home steps
  pub climb : StepsClimb level steps
  pub placed : (from action row : ℕ) → leave_by chains event home steps from ≡ Some action
      → sends moves action from row ≡ cond (is_from from (before_by steps row)) 1 0
