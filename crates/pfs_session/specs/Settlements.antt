-- What a session does with all that it holds back: each amount is added to its row, in ascending order.
use Rattle.std.specs.Prelude.{ℕ, ◌≡◌, ◌+◌, List, [], ◌∷◌, ◌++◌, length, Option, Some, None}
use Rattle.pfs_event.specs.declared.entry.Entry.{Entry}
use Rattle.pfs_event.specs.declared.entry.Entry.TheVariants as says
use Rattle.pfs_levels.specs.Calls.{Call, Takes, Puts, Opening}
use Rattle.pfs_levels.specs.RowWords.{merged}
use Rattle.pfs_event.specs.Logs.{Journal}
use Rattle.pfs_levels.specs.Moves.{Did}
use Rattle.pfs_stat.specs.declared.Stat.{Stat}
use Rattle.pfs_session.specs.SessionStates.{State, Owed, owed_of, nothing_held}

-- what is held from a cell's number on, in the order of the rows
unfoldable pub owed_from : ℕ → ℕ → List (Option Stat) → List Owed
owed_from slot cell [] = []
owed_from slot cell (one ∷ others) = owed_of slot cell one ++ owed_from slot (cell + 1) others

abbrev pub owed_in : Option ℕ → List (Option Stat) → List Owed
owed_in None held = []
owed_in (Some slot) held = owed_from slot 0 held

abbrev pub owed_by_state : State → List Owed
owed_by_state s = owed_in s.place.thread s.held

-- an amount that was added: the version at which its row was taken, and what the row held
pub record Paid : Type 0 where
  pub owed : Owed
  pub version : ℕ
  pub found : List ℕ

abbrev pub pay_calls : Paid → List Call
pay_calls p =
    Puts p.owed.row (merged p.found p.owed.amount) (p.version + 1) ∷ Takes p.owed.row p.version p.found ∷ []

abbrev pub pay_entries : Paid → List Entry
pay_entries p = says.Add p.owed.row (p.version + 1) ∷ []

-- what was added stands newest first, as calls do; entries and what was owed stand in order
abbrev pub paid_calls : List Paid → List Call
paid_calls [] = []
paid_calls (p ∷ ps) = pay_calls p ++ paid_calls ps

abbrev pub paid_entries : List Paid → List Entry
paid_entries [] = []
paid_entries (p ∷ ps) = paid_entries ps ++ pay_entries p

abbrev pub owed_by : List Paid → List Owed
owed_by [] = []
owed_by (p ∷ ps) = owed_by ps ++ p.owed ∷ []

-- these amounts were added, in this order, and nothing else was done
pub record Pays (owed : List Owed) (old new : Journal) (was now : Opening → List Call → Type 0) : Type 0 where
  pub paid : List Paid
  pub owed_are : owed_by paid ≡ owed
  pub did : Did (paid_calls paid) (paid_entries paid) old new was now

-- the entry that stands before them, where there are some
abbrev pub settle_head : List Owed → List Entry
settle_head [] = []
settle_head (one ∷ others) = says.Settle ∷ []

-- how many entries it takes
abbrev pub settle_cost : List Owed → ℕ
settle_cost [] = 0
settle_cost (one ∷ others) = 2 + length others

-- these amounts were added behind the entry that says so
pub record PaysAll (owed : List Owed) (old new : Journal) (was now : Opening → List Call → Type 0) : Type 0 where
  pub paid : List Paid
  pub owed_are : owed_by paid ≡ owed
  pub did : Did (paid_calls paid) (settle_head owed ++ paid_entries paid) old new was now

-- all that is held is added, and nothing is held any more; a session without a slot held nothing
pub record Settles (s : State) (calls : List Call) (entries : List Entry) (after : State) : Type 0 where
  pub unseated : s.place.thread ≡ None → s.held ≡ nothing_held
  pub paid : List Paid
  pub owed_are : owed_by paid ≡ owed_by_state s
  pub calls_are : calls ≡ paid_calls paid
  pub entries_are : entries ≡ settle_head (owed_by_state s) ++ paid_entries paid
  pub after_is : after ≡ record s { held = nothing_held }
