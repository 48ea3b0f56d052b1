-- The law from lines in the order of print.
use Rattle.std.proofs.Common.{◌≡◌, ℕ, Bool, true, false, cond, List, [], ◌∷◌, ◌++◌, length, Option, Some, None, refl}
use Rattle.std.specs.Prelude.{nat_lt}
use Rattle.pfs_stat.specs.Stat.{MergeIsMonoid}
use Rattle.pfs_conservation.specs.RowChains.{found_by}
use Rattle.pfs_conservation.specs.Tenures.{Owner}
use Rattle.pfs_conservation.specs.ActionMoves.{moved_by, moves_of, moves_to}
use Rattle.pfs_conservation.specs.PlaceFolds.{State}
use Rattle.pfs_conservation.specs.AdministrationFold.{Action, numbered}
use Rattle.pfs_conservation.specs.CellHolders.{Numbering, holder_of, takes_by, opened_by}
use Rattle.pfs_conservation.specs.PrintedChanges.{Tagged, chain_of, AreChained}
use Rattle.pfs_conservation.specs.Prints.{AreActed}
use Rattle.pfs_conservation.specs.ConservedSums.{stats, Reported, ReportedDiscarded}
use Rattle.pfs_conservation.proofs.MoveOrder.{of_order}
use Rattle.pfs_conservation.proofs.Conservation.{merges, sized}
use Rattle.pfs_conservation.proofs.KindSummaries.{Base, acts_rising, nexts_once}
use Rattle.pfs_conservation.proofs.ChainedPrints.{Alike, GiveOnce, acted_chained}
use Rattle.pfs_conservation.proofs.Ledger.{opened_sound, opened_small, report_conserved, report_discarded}

module _ (n : Numbering) (opening : State) (rows : List ℕ) (base : Base n opening rows) (actions : List Action) (kind : ℕ) where
  abbrev holder : ℕ → ℕ → Option Owner
  holder = holder_of n opening (numbered actions)

  abbrev takes : ℕ → ℕ → Bool
  takes = takes_by n opening (numbered actions) kind

  alike : (k : ℕ) (rs : List ℕ) → Alike k (moves_of holder takes k rs)
  alike k [] = tt
  alike k (r ∷ rs) = at (takes k r) (holder k r) (alike k rs)
    where
      at : (b : Bool) (o : Option Owner) → Alike k (moves_of holder takes k rs) → Alike k (cond b (moved_by o k r) [] ++ moves_of holder takes k rs)
      at true None ih = ih
      at true (Some owner) ih = (refl, ih)
      at false o ih = ih

  give_once : (k : ℕ) (rs : List ℕ) → GiveOnce (moves_of holder takes k rs)
  give_once k [] = tt
  give_once k (r ∷ rs) = at (takes k r) (holder k r) refl (give_once k rs)
    where
      at : (b : Bool) (o : Option Owner) → holder k r ≡ o → GiveOnce (moves_of holder takes k rs) → GiveOnce (cond b (moved_by o k r) [] ++ moves_of holder takes k rs)
      at true None q ih = ih
      at true (Some owner) q ih = (nexts_once n opening rows base actions kind k r owner q, ih)
      at false o q ih = ih

  pub lines_chained : (kept : ℕ → ℕ → Bool) (lines : List Tagged) → AreActed kept (λ k. moves_of (holder_of n opening (numbered actions)) (takes_by n opening (numbered actions) kind) k rows) (length actions) lines
      → AreChained kept (moves_to (holder_of n opening (numbered actions)) (takes_by n opening (numbered actions) kind) rows (length actions)) lines
  lines_chained kept lines a = acted_chained kept holder takes rows (length actions)
      (λ k. of_order holder takes (λ r. r) rows (length actions) (acts_rising n opening rows base actions kind) k rows base.listing.rises) (λ k. alike k rows) (λ k. give_once k rows) lines a

pub reported_stats : MergeIsMonoid → Reported
reported_stats m measures fits n good rows listing limits l actions kind events lines whose acted added key cells lows once slots =
    let base : Base n (opened_by limits) rows = record { good = good; sound = opened_sound limits; small = opened_small limits l; listing = listing } in
    report_conserved n (opened_by limits) rows base actions kind (stats measures) (merges m measures fits) (λ stat. stat.count) (sized m measures fits)
    events lines whose (lines_chained n (opened_by limits) rows base actions kind (λ action row. nat_lt 0 (found_by (stats measures) (chain_of lines) 4 action row).count) lines acted) added key cells lows once slots

pub reported_discarded_stats : MergeIsMonoid → ReportedDiscarded
reported_discarded_stats m measures fits n good rows listing limits l actions kind events lines whose acted added cell low =
    let base : Base n (opened_by limits) rows = record { good = good; sound = opened_sound limits; small = opened_small limits l; listing = listing } in
    report_discarded n (opened_by limits) rows base actions kind (stats measures) (merges m measures fits) (λ stat. stat.count) (sized m measures fits)
    events lines whose (lines_chained n (opened_by limits) rows base actions kind (λ action row. nat_lt 0 (found_by (stats measures) (chain_of lines) 4 action row).count) lines acted) added cell low
