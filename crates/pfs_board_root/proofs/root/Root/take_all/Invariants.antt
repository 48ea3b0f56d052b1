use Rattle.std.proofs.Common.{◌≡◌, ◌+◌, List, length, sum_by}
use Rattle.pfs_board_session.specs.contracts.seated.SeatedReadable.TheImpl.{ghosts}
use Rattle.pfs_board_store.specs.RootActors.{Worked}
use Rattle.pfs_board_root.specs.Roots.{AreKnown}
use Rattle.pfs_board_root.proofs.SeatJoins.{LeftToTake}
use Rattle.pfs_board_root.proofs.root.Root.take_all.Given as goal

abbrev pub invariant-loop-actor : goal.invariant-loop-actor
invariant-loop-actor g l = ((ws : List Worked) → AreKnown l.fn.self (λ a. ((ghosts g.row.R g.row.G g.row.N g.R.Wait g.R.Wait-dict g.G.Gate g.G.Gate-dict g.N.Shared g.N.Shared-dict g.N.Named g.N.Named-dict).seen a).reached) ws l.fn.actors.items
    → LeftToTake g.N.Named.setting g.N.Named.change (λ a. ((ghosts g.row.R g.row.G g.row.N g.R.Wait g.R.Wait-dict g.G.Gate g.G.Gate-dict g.N.Shared g.N.Shared-dict g.N.Named g.N.Named-dict).seen a).reached) ws l.actors.items l.fn.self l.self)
    × (l.self.seat.allowance + sum_by (λ a. ((ghosts g.row.R g.row.G g.row.N g.R.Wait g.R.Wait-dict g.G.Gate g.G.Gate-dict g.N.Shared g.N.Shared-dict g.N.Named g.N.Named-dict).seen a).left) l.actors.items ≡ l.fn.self.seat.allowance + sum_by (λ a. ((ghosts g.row.R g.row.G g.row.N g.R.Wait g.R.Wait-dict g.G.Gate g.G.Gate-dict g.N.Shared g.N.Shared-dict g.N.Named g.N.Named-dict).seen a).left) l.fn.actors.items)
    × (l.self.draws.draws + sum_by (λ a. ((ghosts g.row.R g.row.G g.row.N g.R.Wait g.R.Wait-dict g.G.Gate g.G.Gate-dict g.N.Shared g.N.Shared-dict g.N.Named g.N.Named-dict).seen a).draws) l.actors.items ≡ l.fn.self.draws.draws + sum_by (λ a. ((ghosts g.row.R g.row.G g.row.N g.R.Wait g.R.Wait-dict g.G.Gate g.G.Gate-dict g.N.Shared g.N.Shared-dict g.N.Named g.N.Named-dict).seen a).draws) l.fn.actors.items)

abbrev pub decreases-loop-actor : goal.decreases-loop-actor
decreases-loop-actor g l = length l.actors.items
