-- That a session stands as its journal tells.
use Rattle.std.specs.Prelude.{ℕ, ◌≡◌, ◌<◌, ◌+◌, Bool, true, false, List, [], ◌∷◌, length, map, Option, None, IfSome}
use Rattle.pfs_event.specs.Verdicts.{is_let_through}
use Rattle.pfs_event.specs.declared.open.Open.{Open}
use Rattle.pfs_levels.specs.Calls.{Call, Adds, Rings, Reads, Loads, Draws, Takes, Puts, Frees, Sets, Enters, Leaves, Meets}
use Rattle.pfs_model.specs.EntryAsks.{digest_row}
use Rattle.pfs_model.specs.Contexts.{Context}
use Rattle.pfs_model.specs.SetupFlags.{is_timed, is_digested, is_offered_current}
use Rattle.pfs_model.specs.declared.lines.Opened.{Opened}
use Rattle.pfs_session.specs.Ends.{cell_in}
use Rattle.pfs_session.specs.Settlements.{owed_by_state}
use Rattle.pfs_session.specs.Starts.{if_through}
use Rattle.pfs_session.specs.SessionStates.{State, Owed}

-- a load gave the flags of its version
abbrev pub LoadAgrees : (ℕ → ℕ → ℕ) → Call → Type 0
LoadAgrees flags (Loads at version found) = found ≡ flags at version
LoadAgrees flags (Adds row amount answer) = Unit {0}
LoadAgrees flags (Rings row content answer) = Unit {0}
LoadAgrees flags (Reads row seen) = Unit {0}
LoadAgrees flags (Draws kind ticket) = Unit {0}
LoadAgrees flags (Takes row version found) = Unit {0}
LoadAgrees flags (Puts row content version) = Unit {0}
LoadAgrees flags (Frees row version) = Unit {0}
LoadAgrees flags (Sets at found version) = Unit {0}
LoadAgrees flags (Enters label labels) = Unit {0}
LoadAgrees flags Leaves = Unit {0}
LoadAgrees flags (Meets versions) = Unit {0}

abbrev pub LoadsAgree : (ℕ → ℕ → ℕ) → List Call → Type 0
LoadsAgree flags [] = Unit {0}
LoadsAgree flags (call ∷ calls) = LoadAgrees flags call × LoadsAgree flags calls

-- what is said of an open event that is let through: its cell, and whether it is timed
abbrev pub IsCounted : (ℕ → ℕ → ℕ) → Option ℕ → Bool → Opened → Open → Type 0
IsCounted flags slot false event what = Unit {0}
IsCounted flags slot true event what = (event.subject.cell ≡ cell_in what)
    × (is_timed flags slot event ≡ what.event.timed)

-- an open event is the one that a journal tells of; of a digested statement it knows the row, behind that of the texts
-- without a place
pub record IsAlike (flags : ℕ → ℕ → ℕ) (slot : Option ℕ) (event : Opened) (what : Open) : Type 0 where
  pub kind : event.subject.kind ≡ what.kind
  pub verdict : event.verdict ≡ what.verdict
  pub number : event.number ≡ if_through what.verdict what.event.number
  pub counted : IsCounted flags slot (is_let_through what.verdict) event what
  pub digested : is_digested flags slot event ≡ what.digested
  pub placed : is_offered_current flags slot event ≡ what.placed
  pub digest : what.digested ≡ true → digest_row event.subject.digest ≡ 8385 + what.event.link

abbrev pub AreAlike : (ℕ → ℕ → ℕ) → Option ℕ → List Opened → List Open → Type 0
AreAlike flags slot [] [] = Unit {0}
AreAlike flags slot [] (what ∷ others) = ⊥
AreAlike flags slot (event ∷ events) [] = ⊥
AreAlike flags slot (event ∷ events) (what ∷ others) =
    IsAlike flags slot event what × AreAlike flags slot events others

abbrev pub row_owed : Owed → ℕ
row_owed one = one.row

-- a session stands as its journal tells: its slot, its open events, the rows for which it holds something, and how many
-- event numbers it has drawn. It has room to hold an amount for each of its 193 cells, and its slot is one of 32
pub record Agrees (flags : ℕ → ℕ → ℕ) (context : Context) (s : State) : Type 0 where
  pub slot : context.slot ≡ s.place.thread
  pub opened : AreAlike flags s.place.thread context.opened s.opened.events
  pub held : context.held ≡ map row_owed (owed_by_state s)
  pub drawn : context.drawn ≡ s.drawn
  pub wide : length s.held ≡ 193
  pub low : IfSome s.place.thread (λ n. n < 32)

-- a session that has ended has nothing open, holds nothing, and its journal tells so
pub record IsOver (context : Context) (s : State) : Type 0 where
  pub opened : context.opened ≡ []
  pub held : context.held ≡ []
  pub nowhere : s.place.thread ≡ None

abbrev pub Stands : (ℕ → ℕ → ℕ) → Bool → Context → State → Type 0
Stands flags false context s = Agrees flags context s
Stands flags true context s = IsOver context s
