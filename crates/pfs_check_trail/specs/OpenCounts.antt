-- What stands beside the open events of a session.
use Rattle.std.specs.Prelude.{ℕ, ◌≡◌, Bool, List, cond, drop, filter, Option, Some, None}
use Rattle.pfs_event.specs.Verdicts.{is_let_through}
use Rattle.pfs_model.specs.declared.lines.Opened.{Opened}
use Rattle.pfs_model.specs.SetupFlags.{is_statement, is_wait, open_through}

abbrev pub is_through : Opened → Bool
is_through event = is_let_through event.verdict

-- those that are let through, behind the end of this one, the innermost of all
abbrev pub through_behind : Option Opened → List Opened → List Opened
through_behind None events = events
through_behind (Some event) events = cond (is_through event) (drop 1 events) events

-- of these events the ones that are let through, and how many of these are statements and waits
pub record AreCounted (opened through : List Opened) (statements waits : ℕ) : Type 0 where
  pub through_is : through ≡ filter is_through opened
  pub statements_are : statements ≡ open_through is_statement opened
  pub waits_are : waits ≡ open_through is_wait opened
