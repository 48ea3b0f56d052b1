use Rattle.std.proofs.Common.{refl, sym}
use Rattle.pfs_check_walk.specs.Walks.{place_of}
use Rattle.pfs_check_seen.specs.SeenRules.{in_order}
use Rattle.pfs_check_ends.proofs.collecting.CollectingVisit.visit.Goals as goal

pub returns : goal.returns
returns g c = λ case found earlier context told known. (
  tt,
  c.in_ok-note.ensures (in_order earlier) (place_of c.args.spot c.args._line.now context c.args.entry.now) refl
      (sym (c.action-action.ensures context told)) refl known,
)
