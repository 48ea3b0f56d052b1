-- Who holds a row, and what an action takes: as much of the administration as conservation asks for.
use Rattle.std.specs.Prelude.{◌≡◌, ℕ, suc, ◌≤◌, ◌==◌, cond, Bool, true, false, List, ◌∷◌, count_by, Option, Some, None}
use Rattle.pfs_conservation.specs.RowChains.{Change}
use Rattle.pfs_conservation.specs.Removals.{removal}
use Rattle.pfs_conservation.specs.Journeys.{times_counted, is_from}
use Rattle.pfs_conservation.specs.RowMoves.{Move, goes_to, sends}
use Rattle.pfs_conservation.specs.Ways.{Step, before_by, Leads, StepsClimb}
use Rattle.pfs_conservation.specs.Conservation.{first_moving, AtMost, Follows, last_of, Journals, IsEvent}

-- who holds a row: a session's number; the names of user and host; whether it has an account, a user and a host place;
-- and the rows to which what leaves it goes
pub record Owner : Type 0 where
  pub number : ℕ
  pub user_name : ℕ
  pub host_name : ℕ
  pub has_account : Bool
  pub has_user : Bool
  pub has_host : Bool
  pub nexts : List ℕ

-- The administration: who holds a row when an action begins, and whether the action takes the row if it is held.
-- An owner goes only at an action that takes its row.
pub record Keeps (holder : ℕ → ℕ → Option Owner) (takes : ℕ → ℕ → Bool) (moves : List Move) : Type 0 where
  pub stays : (action row : ℕ) (owner : Owner) → holder action row ≡ Some owner → takes action row ≡ false
      → holder (suc action) row ≡ Some owner
  pub listed : (least row action : ℕ) → first_moving least row moves ≡ Some action → takes action row ≡ true
  pub lists : (least row action : ℕ) (owner : Owner) → least ≤ action → takes action row ≡ true
      → holder action row ≡ Some owner → AtMost (first_moving least row moves) action
  pub sends : (action from row : ℕ) (owner : Owner) → takes action from ≡ true → holder action from ≡ Some owner
      → sends moves action from row ≡ cond (goes_to row owner.nexts) 1 0

-- the action isn't later than the quit, where there is one
abbrev pub IsBy : Option ℕ → ℕ → Type 0
IsBy None action = Unit {0}
IsBy (Some quit) action = action ≤ quit

-- An event's session connects by action `connect`. Its rows are its own from then until its quit is done, whatever is
-- taken; its removal lies between the two; and an action that takes an upper row takes the row below it.
pub record IsTenant (chains : ℕ → List Change) (holder : ℕ → ℕ → Option Owner) (takes : ℕ → ℕ
    → Bool) (event home : ℕ) (steps : List Step) (own : ℕ → Owner) (connect : ℕ) (quit : Option ℕ) : Type 0 where
  pub holds_home : (action : ℕ) → suc connect ≤ action → (IsBy quit action) → holder action home ≡ Some (own home)
  pub holds : (action row from : ℕ) → before_by steps row ≡ Some from → suc connect ≤ action → IsBy quit action
      → holder action row ≡ Some (own row)
  pub nexts_home : (row : ℕ) → goes_to row (own home).nexts ≡ is_from home (before_by steps row)
  pub nexts : (from below row : ℕ) → before_by steps from ≡ Some below
      → goes_to row (own from).nexts ≡ is_from from (before_by steps row)
  pub bound : (action : ℕ) → removal event (chains home) ≡ Some action → (suc connect ≤ action) × IsBy quit action
  pub sweeps : (action row from : ℕ) → before_by steps row ≡ Some from → (from == home) ≡ false
      → takes action row ≡ true → takes action from ≡ true
  pub joins : (row from : ℕ) → before_by steps row ≡ Some from → (from == home) ≡ false
      → (below : ℕ) × (before_by steps from ≡ Some below)
  pub stays_home : removal event (chains home) ≡ None → (action : ℕ) → suc connect ≤ action
      → holder action home ≡ Some (own home)

-- The events of all sessions are tenants of their rows.
pub record HasTenants {A : Type 0} (j : Journals A) (holder : ℕ → ℕ → Option Owner) (takes : ℕ → ℕ → Bool) (own : ℕ
    → ℕ → Owner) (connect : ℕ → ℕ) (quit : ℕ → Option ℕ) : Type 0 where
  pub keeps : Keeps holder takes j.moves
  pub counted : (event : ℕ) → IsEvent j event → (row : ℕ)
      → times_counted event (j.chains row) ≡ cond (row == j.home event) 1 0
  pub leads : (event : ℕ) → IsEvent j event → Leads (j.home event) (j.steps event)
  pub climb : (event : ℕ) → IsEvent j event → StepsClimb j.level (j.steps event)
  pub tenant : (event : ℕ) → IsEvent j event
      → IsTenant j.chains holder takes event (j.home event) (j.steps event) (own event) (connect event) (quit event)

-- A summary row after the last action: it shows each row that belongs to it by its holder, once, and no other;
-- an action covers it exactly where it takes the last row of the path.
pub record IsTable {A : Type 0} (j : Journals A) (holder : ℕ → ℕ → Option Owner) (takes : ℕ → ℕ → Bool) (own : ℕ → ℕ
    → Owner) (connect : ℕ → ℕ) (end : ℕ) (belongs : ℕ → Owner → Bool) (shown covers : List ℕ) (path : ℕ
    → List ℕ) (leads : ℕ → Bool) : Type 0 where
  pub shows : (row : ℕ) (owner : Owner) → holder end row ≡ Some owner
      → count_by (λ r. r == row) shown ≡ cond (belongs row owner) 1 0
  pub mine_home : (event : ℕ) → IsEvent j event
      → cond (belongs (j.home event) (own event (j.home event))) 1 0
      ≡ cond (leads event) (count_by (λ r. r == j.home event) (j.home event ∷ path event)) 0
  pub mine : (event : ℕ) → IsEvent j event → (row from : ℕ) → before_by (j.steps event) row ≡ Some from
      → cond (belongs row (own event row)) 1 0
      ≡ cond (leads event) (count_by (λ r. r == row) (j.home event ∷ path event)) 0
  pub follows : (event : ℕ) → IsEvent j event
      → Follows (before_by (j.steps event)) (j.home event) (j.home event) (path event)
  pub covers_are : (event : ℕ) → IsEvent j event → leads event ≡ true → (t : ℕ)
      → (1 ≤ count_by (λ c. c == t) covers → takes t (last_of (j.home event) (path event)) ≡ true)
      × (takes t (last_of (j.home event) (path event)) ≡ true → 1 ≤ count_by (λ c. c == t) covers)
  pub ended : (event : ℕ) → IsEvent j event → (least : ℕ) → removal event (j.chains (j.home event)) ≡ Some least
      → least ≤ end
  pub begun : (event : ℕ) → IsEvent j event → suc (connect event) ≤ end
