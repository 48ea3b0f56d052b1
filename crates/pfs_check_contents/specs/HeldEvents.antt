-- The amounts of events that sessions hold for rows.
use Rattle.std.specs.Prelude.{ℕ, ◌≡◌, ◌==◌, ◌&&◌, Bool, cond, List, [], ◌∷◌, ◌++◌, map, Option}
use Rattle.std.specs.BTreeMap.{get}
use Rattle.std.specs.declared.cmp.Ordering.{Ordering}
use Rattle.std.specs.Ordering.{nat_cmp, ordering_then}
use Rattle.pfs_event.specs.declared.entry.Entry.{Entry}
use Rattle.pfs_event.specs.declared.entry.Entry.TheVariants as says
use Rattle.pfs_stat.specs.declared.Stat.{Stat}
use Rattle.pfs_model.specs.declared.lines.Opened.{Opened}
use Rattle.pfs_model.specs.Contents.{Given, amount_of}
use Rattle.pfs_model.specs.Contexts.{Waiting, held_else, held_for, own_event, own_wait}
use Rattle.pfs_model.specs.EntryPlaces.{Placed}
use Rattle.pfs_check_contents.specs.declared.changes.Effect.TheVariants as effects
use Rattle.pfs_check_contents.specs.declared.held.HeldAmounts.{HeldAmounts}
use Rattle.pfs_check_contents.specs.declared.held.HeldAt.{HeldAt}
use Rattle.pfs_check_contents.specs.PlacedChanges.{IsEffectOf}
use Rattle.pfs_check_contents.specs.RowEffects.{in_one}

abbrev pub held_cmp : HeldAt → HeldAt → Ordering
held_cmp one other = ordering_then (nat_cmp one.session other.session) (nat_cmp one.row other.row)

abbrev pub is_held_at : HeldAt → HeldAt → Bool
is_held_at one at = (one.session == at.session) && (one.row == at.row)

abbrev pub held_at : ℕ → ℕ → HeldAt
held_at session row = record { session = session; row = row }

-- what an entry of the session holds for rows, and what it brings to a row
abbrev pub waiting_behind : Entry → Option Opened → List Waiting → List Waiting
waiting_behind (says.Held row first second) ended waiting = own_wait row ended ++ waiting
waiting_behind (says.Add row version) ended waiting = held_else row waiting
waiting_behind _ ended waiting = waiting

-- what a session holds behind these entries, the last first
abbrev pub waiting_in : List Placed → ℕ → List Waiting
waiting_in [] session = []
waiting_in (place ∷ earlier) session =
    cond (place.session == session)
    (waiting_behind place.entry place.context.ended (waiting_in earlier session))
    (waiting_in earlier session)

-- what events of a session add
abbrev pub amount_in : Given → ℕ → List Opened → Option Stat
amount_in given session events = in_one (map (amount_of given session) events)

-- the event that has just ended, if one has
abbrev pub own_amount : Given → ℕ → Option Opened → Option Stat
own_amount given session ended = amount_in given session (own_event ended)

-- what an addition to a row brings there: the event that has just ended, and all that is held for the row
abbrev pub brought_in : Given → List Placed → Placed → ℕ → Option Stat
brought_in given earlier place row =
    amount_in given place.session (own_event place.context.ended ++ held_for row (waiting_in earlier place.session))

-- the amounts that are held behind these entries, the last first
pub record AreHeld (given : Given) (earlier : List Placed) (held : HeldAmounts) : Type 0 where
  pub each : (session row : ℕ) → get held_cmp held.kept (held_at session row)
      ≡ amount_in given session (held_for row (waiting_in earlier session))

-- So an addition adds this, where its session holds what its entries say.
abbrev pub AddLaw : Type 0
AddLaw = (given : Given) (earlier : List Placed) (place : Placed) (row version : ℕ)
    → place.entry ≡ says.Add row version → place.context.waiting ≡ waiting_in earlier place.session
    → IsEffectOf given place (effects.Add (brought_in given earlier place row))
