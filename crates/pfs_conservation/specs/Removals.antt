-- Which action takes a row first after something came to it.
use Rattle.std.specs.Prelude.{ℕ, ◌+◌, ◌*◌, ◌≤◌, ◌==◌, ◌&&◌, nat_le, nat_lt, cond, Bool, false, List, [], ◌∷◌, count_by, Option, Some, None}
use Rattle.pfs_conservation.specs.RowChains.{Change, Added, Taken, Given}

-- the action that takes the row first along these changes
abbrev pub first_take : List Change → Option ℕ
first_take [] = None
first_take (Taken action ∷ changes) = Some action
first_take (change ∷ changes) = first_take changes

-- what follows the first change that passes the test
abbrev pub following : (Change → Bool) → List Change → List Change
following test [] = []
following test (change ∷ changes) = cond (test change) changes (following test changes)

abbrev pub counts_event : ℕ → Change → Bool
counts_event event (Added events) = nat_lt 0 (count_by (λ x. x == event) events)
counts_event event (Taken action) = false
counts_event event (Given action from) = false

abbrev pub is_given : ℕ → ℕ → Change → Bool
is_given action row (Given number from) = (number == action) && (from == row)
is_given action row (Taken number) = false
is_given action row (Added events) = false

-- the first action that takes the event's row after it was counted there
abbrev pub removal : ℕ → List Change → Option ℕ
removal event changes = first_take (following (counts_event event) changes)

-- the first action from this number on that takes the row
abbrev pub first_from : ℕ → List Change → Option ℕ
first_from least [] = None
first_from least (Taken action ∷ changes) = cond (nat_le least action) (Some action) (first_from least changes)
first_from least (change ∷ changes) = first_from least changes

-- along a row the numbers never fall; an action takes it once, and gives nothing to it after that
abbrev pub Ascends : ℕ → List Change → Type 0
Ascends key [] = Unit {0}
Ascends key (Added events ∷ changes) = Ascends key changes
Ascends key (Taken action ∷ changes) = (key ≤ 2 * action + 1) × Ascends (2 * action + 2) changes
Ascends key (Given action from ∷ changes) = (key ≤ 2 * action) × Ascends (2 * action) changes
