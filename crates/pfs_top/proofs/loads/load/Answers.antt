use Rattle.pfs_top.specs.Commands.{HasSummaries, HasLoad}
use Rattle.pfs_top.proofs.Outcomes.{tells_as, load_shown}
use Rattle.pfs_top.proofs.loads.load.Goals as goal

pub returns-in-Ok : goal.returns-in-Ok
returns-in-Ok g c =
    tells_as (HasSummaries c.in-Ok.script.setting c.in-Ok.script.phases) (HasLoad c.args.number) _ _ _ c.show_summaries.result (load_shown c.one_text.ensures c.args.number c.in-Ok.script.setting c.in-Ok.script.phases c.in-Ok.ensures) c.show_summaries.ensures
