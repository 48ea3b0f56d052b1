use Rattle.std.proofs.Common.{◌≡◌, ◌≤◌, length, drop, vec_capacity}
use Rattle.std.specs.Vec.Iter.{into_iter_items, into_iter_len}
use Rattle.pfs_admin.specs.OpeningState.{opening_flags}
use Rattle.pfs_board_root.specs.Roots.{opening_at}
use Rattle.pfs_board_session.specs.contracts.seated.SeatedReadable.TheImpl.{ghosts}
use Rattle.pfs_matching.specs.ObjectRules.{opening_objects}
use Rattle.pfs_board_run.specs.BoardRuns.{share_of_each}
use Rattle.pfs_board_run.proofs.JobLoops.{LeftToHandOut}
use Rattle.pfs_board_run.proofs.board.hand_out.Given as goal

abbrev pub invariant-loop-block : goal.invariant-loop-block
invariant-loop-block g l = LeftToHandOut g.N.Named.setting g.N.Named.change ((ghosts g.row.R g.row.G g.row.N g.R.Wait g.R.Wait-dict g.G.Gate g.G.Gate-dict g.N.Shared g.N.Shared-dict g.N.Named g.N.Named-dict).seen) (opening_at (opening_flags g.N.Named.setting opening_objects) l.fn.root share_of_each share_of_each) l.blocks (drop l.block-index l.blocks) l.fn.sessions.items (into_iter_items l.sessions) l.jobs.items l.fn.root l.root
    × (into_iter_len l.sessions ≡ length (into_iter_items l.sessions)) × (length l.blocks ≤ vec_capacity l.jobs)
