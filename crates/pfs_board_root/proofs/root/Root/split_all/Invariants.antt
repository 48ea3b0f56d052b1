use Rattle.std.proofs.Common.{◌≡◌, length, vec_capacity, All}
use Rattle.pfs_admin.specs.OpeningState.{opening_flags}
use Rattle.pfs_board_session.specs.contracts.seated.SeatedReadable.TheImpl.{ghosts}
use Rattle.pfs_matching.specs.ObjectRules.{opening_objects}
use Rattle.pfs_board_root.specs.Roots.{AreSplit, HasSplit, opening_at}
use Rattle.pfs_board_root.proofs.root.Root.split_all.Given as goal

abbrev pub invariant-loop : goal.invariant-loop
invariant-loop g l = HasSplit l.counter l.publications l.draws l.fn.self l.self × (length l.actors.items ≡ l.counter) × (vec_capacity l.actors ≡ vec_capacity l.fn.actors)
    × AreSplit (λ a. ((ghosts g.row.R g.row.G g.row.N g.R.Wait g.R.Wait-dict g.G.Gate g.G.Gate-dict g.N.Shared g.N.Shared-dict g.N.Named g.N.Named-dict).seen a).reached)
    (opening_at (opening_flags g.N.Named.setting opening_objects) l.fn.self l.publications l.draws) 1 l.actors.items
    × All (λ a. (((ghosts g.row.R g.row.G g.row.N g.R.Wait g.R.Wait-dict g.G.Gate g.G.Gate-dict g.N.Shared g.N.Shared-dict g.N.Named g.N.Named-dict).seen a).left ≡ l.publications)
    × (((ghosts g.row.R g.row.G g.row.N g.R.Wait g.R.Wait-dict g.G.Gate g.G.Gate-dict g.N.Shared g.N.Shared-dict g.N.Named g.N.Named-dict).seen a).draws ≡ l.draws)) l.actors.items
