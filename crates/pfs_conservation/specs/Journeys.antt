-- The rows that an event passes, and the action at which it leaves each.
use Rattle.std.specs.Prelude.{◌≡◌, ℕ, suc, ◌+◌, ◌==◌, ◌≤◌, cond, false, List, [], ◌∷◌, count_by, Option, Some, None}
pub use Rattle.pfs_containers.specs.Connections.{is_from}
use Rattle.pfs_conservation.specs.RowChains.{Change, Added}
use Rattle.pfs_conservation.specs.Removals.{is_given, removal, first_from}

-- how often the changes count the event
abbrev pub times_counted : ℕ → List Change → ℕ
times_counted event [] = 0
times_counted event (Added events ∷ changes) = count_by (λ x. x == event) events + times_counted event changes
times_counted event (change ∷ changes) = times_counted event changes

-- the first action from that one on, where there is one
abbrev pub first_from_one : Option ℕ → List Change → Option ℕ
first_from_one None changes = None
first_from_one (Some action) changes = first_from action changes

abbrev pub leaves_after : Option ℕ → (ℕ → Option ℕ) → List Change → Option ℕ
leaves_after None leave changes = None
leaves_after (Some from) leave changes = first_from_one (leave from) changes

-- An event is counted once, at its home, and comes there from no other row. `before` says from which row it comes to
-- a row, `leave` at which action it leaves the row. Where it leaves a row, that action gives what it found to the
-- rows that the event comes to from there, where it found something, and to no other.
pub record Journey (chains : ℕ → List Change) (level : ℕ → ℕ) (is_some : ℕ → ℕ
    → Type 0) (event home : ℕ) (before leave : ℕ → Option ℕ) : Type 0 where
  pub counted : (row : ℕ) → times_counted event (chains row) ≡ cond (row == home) 1 0
  pub starts : before home ≡ None
  pub climbs : (from row : ℕ) → before row ≡ Some from → suc (level from) ≤ level row
  pub leaves_home : leave home ≡ removal event (chains home)
  pub leaves : (row : ℕ) → (row == home) ≡ false → leave row ≡ leaves_after (before row) leave (chains row)
  pub gives_only : (from action row : ℕ) → leave from ≡ Some action
      → count_by (is_given action from) (chains row) ≤ cond (is_from from (before row)) 1 0
  pub gives : (from action row : ℕ) → before row ≡ Some from → leave from ≡ Some action → is_some action from
      → 1 ≤ count_by (is_given action from) (chains row)

-- 1 where the event has come to a row: it has left the row before it, or is at home
abbrev pub left : Option ℕ → ℕ
left None = 0
left (Some action) = 1

abbrev pub came_from : Option ℕ → (ℕ → Option ℕ) → ℕ
came_from None leave = 0
came_from (Some from) leave = left (leave from)

abbrev pub came : ℕ → (ℕ → Option ℕ) → (ℕ → Option ℕ) → ℕ → ℕ
came home before leave row = cond (row == home) 1 (came_from (before row) leave)
