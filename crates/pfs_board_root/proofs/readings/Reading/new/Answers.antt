use Rattle.std.proofs.Common.{[], subst}
use Rattle.pfs_admin.specs.OpeningState.{opening_flags}
use Rattle.pfs_matching.specs.ObjectRules.{opening_objects}
use Rattle.pfs_board_root.specs.Readings.{HaveRead}
use Rattle.pfs_board_root.specs.Roots.{RootView}
use Rattle.pfs_board_root.specs.Settlements.{own_opening}
use Rattle.pfs_board_root.proofs.ReadCalls.{none_read}
use Rattle.pfs_board_root.proofs.readings.Reading.new.Goals as goal

pub returns-clause-reached : goal.returns-clause-reached
returns-clause-reached g c =
    let flags = opening_flags g.N.Named.setting opening_objects in
    subst (λ (z : RootView). HaveRead flags g.W.Began.was z (own_opening flags z) []) c.requires.was (none_read flags g.W.Began.was)
