-- A rule asked of one entry after another.
use Rattle.std.specs.Prelude.{ℕ, zero, suc, ◌-◌, Bool, true, false, List, [], ◌∷◌, drop, take, Option, Some, None}
use Rattle.pfs_event.specs.declared.entry.Entry.{Entry}
use Rattle.pfs_model.specs.declared.lines.Line.{Line}
use Rattle.pfs_model.specs.declared.lines.Opened.{Opened}
use Rattle.pfs_model.specs.Contexts.{Context, first_of, noted, subject_of}
use Rattle.pfs_model.specs.EntryPlaces.{Placed}
use Rattle.pfs_check_faults.specs.ReportCases.{AllHave}
use Rattle.pfs_check_walk.specs.declared.visits.Spot.{Spot}

abbrev pub place_of : Spot → Line → Context → Entry → Placed
place_of spot line context entry = record {
  phase = spot.phase;
  session = spot.session;
  line = line;
  context = context;
  entry = entry;
}

-- the entries of a journal from one place to the one behind them
abbrev pub entries_between : List Entry → ℕ → ℕ → List Entry
entries_between entries start end = take (end - start) (drop start entries)

abbrev pub first_opened : Context → Option Opened
first_opened context = first_of context.opened

-- what is kept tells what the session's entries tell behind this one
pub record IsTold (tells : Context → Type 0) (line : Line) (old : Context) (entry : Entry) : Type 0 where
  pub is : tells (noted (subject_of line) old entry)

-- the rule is kept at an entry, and one entry more is known; or it isn't
abbrev pub IsVisited : (List Placed → Placed → Type 0) → List Placed → Placed → (List Placed → Type 0) → Bool → Type 0
IsVisited rule earlier place knows true = rule earlier place × knows (place ∷ earlier)
IsVisited rule earlier place knows false = rule earlier place → ⊥

-- these behind those, the last first
abbrev pub onto : List Placed → List Placed → List Placed
onto earlier [] = earlier
onto earlier (place ∷ places) = onto (place ∷ earlier) places

-- so many keep the rule, and the next one doesn't
abbrev pub LacksFirst : (List Placed → Placed → Type 0) → List Placed → List Placed → ℕ → Type 0
LacksFirst rule earlier [] at = ⊥
LacksFirst rule earlier (place ∷ places) zero = rule earlier place → ⊥
LacksFirst rule earlier (place ∷ places) (suc at) = rule earlier place × LacksFirst rule (place ∷ earlier) places at

-- all keep it, and all are known; or the first that doesn't is told
abbrev pub IsWalked : (List Placed → Placed → Type 0) → List Placed → List Placed → (List Placed → Type 0) → Option ℕ
    → Type 0
IsWalked rule earlier places knows None = AllHave rule earlier places × knows (onto earlier places)
IsWalked rule earlier places knows (Some at) = LacksFirst rule earlier places at

-- behind all of them what is kept tells what they tell
abbrev pub IsTracked : (Context → Type 0) → Context → Option ℕ → Type 0
IsTracked tells context None = tells context
IsTracked tells context (Some at) = Unit {0}
