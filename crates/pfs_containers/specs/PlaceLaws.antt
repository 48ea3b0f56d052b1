-- Laws of the fold: a slot is one session's, and no place has more connections than it has had.
use Rattle.std.specs.Prelude.{ℕ, ◌≡◌, ◌≢◌, ◌+◌, ◌==◌, cond, List, Option, Some, None}
use Rattle.pfs_rows.specs.declared.limits.Limits.{Limits}
use Rattle.pfs_containers.specs.declared.containers.Connection.{Connection}
use Rattle.pfs_containers.specs.declared.containers.Seated.{Seated}
use Rattle.pfs_containers.specs.Connections.{entry_at, is_from}
use Rattle.pfs_containers.specs.Administration.{Containers, Action, Connect, Quit, found_where, current, advanced, admin_after}
use Rattle.pfs_containers.specs.ContainerState.{AreWithin, opening, seat_of, seated}

-- a session stands in one slot more: that slot was free, each other one is as it was, and each place that the session
-- has, and no other, has one connection more
pub record IsOneMore (slot : ℕ) (x : Connection) (before after : List (Option Connection)) : Type 0 where
  pub free : entry_at before slot ≡ None
  pub own : entry_at after slot ≡ Some x
  pub others : (other : ℕ) → other ≢ slot → entry_at after other ≡ entry_at before other
  pub counts : (which : Connection → Option ℕ) → (place : ℕ)
      → current which after place ≡ current which before place + cond (is_from place (which x)) 1 0

-- a connect that gets a slot takes one that was free, and throws nobody out; one that gets none changes no slot
abbrev pub ConnectLaw : Type 0
ConnectLaw = (a : Containers) → (number user host : ℕ)
    → ((seat : Seated) → seat_of a number user host ≡ Some seat
    → IsOneMore seat.slot seat.connection a.places.threads (advanced a (Connect number user host)).places.threads)
    × (seat_of a number user host ≡ None
    → (advanced a (Connect number user host)).places.threads ≡ a.places.threads)

-- a quit of a session that has a slot frees that one alone, which is the session's own; else it changes no slot
abbrev pub QuitLaw : Type 0
QuitLaw = (a : Containers) → (number : ℕ)
    → ((seat : Seated) → seated (found_where (λ x. x.number == number) a.places.threads) ≡ Some seat
    → (seat.connection.number ≡ number)
    × IsOneMore seat.slot seat.connection (advanced a (Quit number)).places.threads a.places.threads)
    × (seated (found_where (λ x. x.number == number) a.places.threads) ≡ None
    → (advanced a (Quit number)).places.threads ≡ a.places.threads)

-- whatever was done from the opening on, no account, user or host has more connections than it has had
pub record AreAllWithin (a : Containers) : Type 0 where
  pub accounts : AreWithin (λ x. x.account) a.places.threads a.account_totals
  pub users : AreWithin (λ x. x.user) a.places.threads a.user_totals
  pub hosts : AreWithin (λ x. x.host) a.places.threads a.host_totals

abbrev pub WithinLaw : Type 0
WithinLaw = (limits : Limits) → (action : ℕ → Action) → (n : ℕ)
    → AreAllWithin (admin_after (opening limits).now action n)
