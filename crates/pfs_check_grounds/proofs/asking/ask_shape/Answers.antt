use Rattle.std.proofs.Common.{sym, ◌∙◌, ap, subst}
use Rattle.pfs_journal.specs.declared.report.ReportParts.{ReportParts}
use Rattle.pfs_check_cut.specs.CutReports.{phases_by}
use Rattle.pfs_check_faults.specs.ShapeFaults.{IsCut}
use Rattle.pfs_check_grounds.proofs.asking.ask_shape.Goals as goal

pub returns-in-Ok : goal.returns-in-Ok
returns-in-Ok c = λ case found phases report.
    let cut = (c.cuts.ensures.exact c.args.phases.now c.args.report.now (phases_by c.in-Ok.cuts.items c.args.report.now.phases)).0 c.in-Ok.ensures in
    subst (λ z. IsCut z case.report (phases_by c.in-Ok.cuts.items case.report.phases)) (sym phases)
    (subst (λ (z : ReportParts). IsCut c.args.phases.now z (phases_by c.in-Ok.cuts.items z.phases)) (sym report) cut)
