-- No event is added to an info row, or held for one.
use Rattle.std.proofs.Common.{ℕ, ◌≤◌, List, [], ◌∷◌, Option, Some, None, arith}
use Rattle.pfs_event.specs.declared.entry.Entry.{Entry}
use Rattle.pfs_model.specs.Chains.{Each}
use Rattle.pfs_model.specs.EntryAsks.{cell_row, digest_row}
use Rattle.pfs_model.specs.EntryPlaces.{Block, Placed, places, IsShaped}
use Rattle.pfs_model.specs.Puts.{AreBrought}
use Rattle.pfs_model.specs.Shapes.{counted_slot}
use Rattle.pfs_law_conservation.specs.RunEvents.{Ended, all_ended}
use Rattle.pfs_law_conservation.proofs.AdditionRows.{IsFeedAt, IsHomeAt, additions_at}
use Rattle.pfs_law_conservation.proofs.EntryWalk.{all_followed}
use Rattle.pfs_law_conservation.proofs.EventOffers.{all_fed}
use Rattle.pfs_law_conservation.proofs.SettledAdditions.{all_settling}

abbrev IsHigh : ℕ → Type 0
IsHigh row = 129 ≤ row

-- an addition is to a row above the info rows
abbrev pub IsHighFeed : Entry → Type 0
IsHighFeed = IsFeedAt IsHigh

cell_high : (slot : Option ℕ) (cell : ℕ) → 129 ≤ cell_row slot cell
cell_high None cell = omega arith
cell_high (Some slot) cell = omega arith

digest_high : (digest : Option ℕ) → 129 ≤ digest_row digest
digest_high None = omega arith
digest_high (Some digest) = omega arith

homes_high : (ended : List Ended) → Each (IsHomeAt IsHigh) ended
homes_high [] = tt
homes_high (one ∷ others) =
    ((cell_high (counted_slot one.context.slot one.event.verdict) one.event.subject.cell, digest_high one.event.subject.digest), homes_high others)

pub all_added : (flags : ℕ → ℕ → ℕ) (blocks : List Block) → IsShaped blocks → AreBrought flags (places blocks) → Each (λ (p : Placed). IsHighFeed p.entry) (places blocks)
all_added flags blocks s b =
    additions_at IsHigh flags (places blocks) (λ session. (all_followed session blocks).follow) (homes_high (all_ended (places blocks))) (all_fed blocks s) b (all_settling blocks s None)
