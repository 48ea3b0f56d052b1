use Rattle.std.proofs.Common.{◌≡◌, length, vec_capacity}
use Rattle.std.specs.Vec.Iter.{into_iter_items, into_iter_len}
use Rattle.pfs_board_session.specs.contracts.seated.SeatedReadable.TheImpl.{ghosts}
use Rattle.pfs_board_run.proofs.JobLoops.{AreLeft}
use Rattle.pfs_board_run.proofs.board.take_results.Given as goal

abbrev pub invariant-loop-job : goal.invariant-loop-job
invariant-loop-job g l = AreLeft g.N.Named.setting g.N.Named.change ((ghosts g.row.R g.row.G g.row.N g.R.Wait g.R.Wait-dict g.G.Gate g.G.Gate-dict g.N.Shared g.N.Shared-dict g.N.Named g.N.Named-dict).seen) l.fn.jobs.items (into_iter_items l.job-iterator) l.rans.items l.fn.root l.root × (vec_capacity l.rans ≡ vec_capacity l.fn.rans) × (into_iter_len l.job-iterator ≡ length (into_iter_items l.job-iterator))
