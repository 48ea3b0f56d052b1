use Rattle.std.proofs.Common.{◌∙◌, ap}
use Rattle.std.specs.Option.{option_to_list}
use Rattle.pfs_check_walk.specs.Walks.{place_of}
use Rattle.pfs_check_deeds.specs.PlacedDeeds.{in_order, placed_at}
use Rattle.pfs_check_deeds.proofs.DeedSteps.{deeds_more}
use Rattle.pfs_check_deeds.proofs.collecting.CollectingVisit.visit.Goals as goal

pub returns : goal.returns
returns g c = λ case found earlier context told known. (
  tt,
  deeds_more (in_order earlier) (place_of c.args._spot c.args._line.now context c.args.entry.now) c.args.self.now
      (record { deeds = c.push_deed.new.deeds; count = c.in_ok-count.count }) (option_to_list c.deed_in-deed.result) known
      (c.deed_in-deed.ensures ∙ ap (λ z. placed_at c.args.self.now.count z c.args.entry.now) (c.action-action.ensures context told))
      c.in_ok-push_deed.ensures c.in_ok-count.ensures,
)
