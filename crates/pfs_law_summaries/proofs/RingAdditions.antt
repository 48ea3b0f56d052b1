-- No event is added to a place of a ring, or held for one: what is due at an end is a cell's row or a digest's.
use Rattle.std.proofs.Common.{ℕ, ◌<◌, false, List, [], None}
use Rattle.pfs_event.specs.declared.entry.Entry.{Entry}
use Rattle.pfs_model.specs.Chains.{Each}
use Rattle.pfs_model.specs.Contexts.{fresh}
use Rattle.pfs_model.specs.EntryPlaces.{Placed}
use Rattle.pfs_model.specs.Puts.{AreBroughtBehind}
use Rattle.pfs_law_conservation.proofs.AdditionRows.{IsFeedAt, IsHomeAt, additions_at}
use Rattle.pfs_law_conservation.proofs.EntryWalk.{Follow}
use Rattle.pfs_law_conservation.proofs.EventOffers.{AreFedPlaces}
use Rattle.pfs_law_conservation.proofs.SettledAdditions.{Settles}
use Rattle.pfs_law_conservation.specs.RunEvents.{Ended, all_ended}

-- an addition is to a row below the rings
abbrev pub IsLowFeed : Entry → Type 0
IsLowFeed = IsFeedAt (λ row. row < 8450)

-- its cell's row and its digest's lie below the rings
abbrev pub IsLowHome : Ended → Type 0
IsLowHome = IsHomeAt (λ row. row < 8450)

pub all_fed_low : (flags : ℕ → ℕ → ℕ) (ps : List Placed) → ((session : ℕ) → Follow session fresh ps) → Each IsLowHome (all_ended ps) → AreFedPlaces false ps → AreBroughtBehind flags [] ps → Settles None ps
    → Each (λ (p : Placed). IsLowFeed p.entry) ps
all_fed_low = additions_at (λ row. row < 8450)
