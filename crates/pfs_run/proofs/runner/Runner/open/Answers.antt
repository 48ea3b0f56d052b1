use Rattle.std.proofs.Common.{refl}
use Rattle.pfs_runs.specs.ScriptLines.{change_in}
use Rattle.pfs_seats.specs.Seats.{depth_of}
use Rattle.pfs_run.proofs.RunStart.{begun}
use Rattle.pfs_run.proofs.runner.Runner.open.Goals as goal

pub returns : goal.returns
returns g c =
    let setting = c.args.setting.now in
    λ phases. begun setting phases _ setting.in_range (c.no_course.ensures setting (change_in phases) (depth_of phases)) c.in_ok-open.ensures.opened c.in_ok-open.ensures.left c.in_ok-open.ensures.draws c.in_ok-empty_seats.ensures refl refl refl c.new-2.ensures.items
    c.new.ensures.items
