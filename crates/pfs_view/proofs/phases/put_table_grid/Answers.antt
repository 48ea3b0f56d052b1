use Rattle.std.proofs.Common.{subst}
use Rattle.pfs_outside.specs.WholeStreams.{Puts}
use Rattle.pfs_view.specs.Grids.{grid_text}
use Rattle.pfs_view.specs.declared.columns.Headings.{Headings}
use Rattle.pfs_view.proofs.phases.put_table_grid.Goals as goal

pub returns : goal.returns
returns g c =
    let written = g.K.Sink.written in
    let faults = g.K.Sink.faults in
    subst (λ (h : Headings). Puts (written c.args.sink.now) (written c.put_grid.new.sink) (faults c.args.sink.now) (faults c.put_grid.new.sink) (grid_text h c.args.times c.args.rows.now) c.put_grid.result) c.headings_of.ensures c.put_grid.ensures
