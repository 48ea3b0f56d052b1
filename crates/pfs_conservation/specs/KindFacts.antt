-- What the events of a kind, its rows and its chains have to do with the administration.
use Rattle.std.specs.Prelude.{◌≡◌, ◌⊎◌, ℕ, suc, ◌≤◌, ◌==◌, cond, true, List, length, count_by, Some, None}
use Rattle.pfs_conservation.specs.RowChains.{Change}
use Rattle.pfs_conservation.specs.Removals.{removal}
use Rattle.pfs_conservation.specs.Journeys.{times_counted}
use Rattle.pfs_conservation.specs.Conservation.{Journals}
use Rattle.pfs_conservation.specs.Tenures.{IsBy}
use Rattle.pfs_conservation.specs.ActionMoves.{moves_to, Ranked}
use Rattle.pfs_conservation.specs.PlaceFolds.{Elsewhere, State, entry_at}
use Rattle.pfs_conservation.specs.AdministrationFold.{Action, Quit, numbered, state_after}
use Rattle.pfs_conservation.specs.CellHolders.{Numbering, IsIn, place_level, holder_of, takes_by}
use Rattle.pfs_conservation.specs.KindSummaries.{Key, KeyThread, leads_key, Whose, OfSession, Aside, home_at, steps_at}

-- the cells of the kind in the order of their rows: each of its rows once
pub record IsListing (n : Numbering) (rows : List ℕ) : Type 0 where
  pub once : (row : ℕ) → IsIn (n.seat row).place → count_by (λ r. r == row) rows ≡ 1
  pub ranked : Ranked (λ row. place_level (n.seat row).place) rows
  pub rises : Ranked (λ row. row) rows
  pub known : (row : ℕ) → IsIn (n.seat row).place → n.is_cell (n.seat row).cell ≡ true
  pub places : (row : ℕ) → IsIn (n.seat row).place ⊎ ((n.seat row).place ≡ Elsewhere)

-- an event's session stands at its slot right after its connect, quits at most once, and the event leaves its row
-- between the two
abbrev pub IsOf : State → List Action → (ℕ → List Change) → Numbering → ℕ → Whose → Type 0
IsOf opening actions chains n event (OfSession cell slot x connect quit) =
    (n.is_cell cell ≡ true) × (entry_at (state_after opening (numbered actions) connect).threads slot ≡ Some x)
    × (connect ≤ length actions)
    × ((k : ℕ) → suc connect ≤ k → IsBy quit (suc k) → numbered actions k ≡ Quit x.number → ⊥)
    × ((number : ℕ) → removal event (chains (home_at n (OfSession cell slot x connect quit))) ≡ Some number
    → (suc connect ≤ number) × IsBy quit number)
    × (removal event (chains (home_at n (OfSession cell slot x connect quit))) ≡ None → quit ≡ None)
IsOf opening actions chains n event (Aside cell) = n.is_cell cell ≡ true

-- the journals of one kind up to the end of these actions
abbrev pub journals_of : {A : Type 0} → Numbering → State → List Action → ℕ → List ℕ → List ℕ → (ℕ → List Change)
    → (ℕ → ℕ → A) → (ℕ → Whose) → Journals A
journals_of n opening actions kind rows events chains found whose = record {
  events = events;
  chains = chains;
  moves = moves_to (holder_of n opening (numbered actions)) (takes_by n opening (numbered actions) kind) rows
      (length actions);
  found = found;
  level = λ row. place_level (n.seat row).place;
  height = 3;
  home = λ event. home_at n (whose event);
  steps = λ event. steps_at n (whose event);
}

pub record AreOf (n : Numbering) (opening : State) (actions : List Action) (events : List ℕ) (chains : ℕ
    → List Change) (whose : ℕ → Whose) : Type 0 where
  pub counted : (event : ℕ) → 1 ≤ count_by (λ e. event == e) events → (row : ℕ)
      → times_counted event (chains row) ≡ cond (row == home_at n (whose event)) 1 0
  pub is_of : (event : ℕ) → 1 ≤ count_by (λ e. event == e) events → IsOf opening actions chains n event (whose event)

-- the slot of a thread's key is that of its session
abbrev pub HasSlot : Key → Whose → Type 0
HasSlot key (OfSession cell slot x connect quit) = (number at : ℕ) → key ≡ KeyThread number at
    → leads_key key x ≡ true → at ≡ slot
HasSlot key (Aside cell) = Unit {0}
