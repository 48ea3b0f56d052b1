use Rattle.std.proofs.Common.{◌∙◌, List, Err, ap, subst, ne_eqb, eq-eqb}
use Rattle.pfs_model.specs.declared.lines.Line.{Line}
use Rattle.pfs_model.specs.Contexts.{fresh}
use Rattle.pfs_model.specs.EntryPlaces.{told_by}
use Rattle.pfs_check_trail.specs.Trails.{trimmed}
use Rattle.pfs_check_cut.specs.CutReports.{AreEntriesCut}
use Rattle.pfs_check_cut.proofs.BlockSteps.{block_done, block_refused, entries_fault, wrong_session}
use Rattle.pfs_check_cut.proofs.blocks.cut_block.Goals as goal

pub returns-then-report-said : goal.returns-then-report-said
returns-then-report-said c = λ earlier are more reports.
    wrong_session earlier c.args.phase c.args.line c.args.said.now c.args.report.now more reports (ne_eqb _ _ c.if-report-said.true)

pub returns-in_err-lines : goal.returns-in_err-lines
returns-in_err-lines c = λ earlier are. block_refused earlier c.args.phase c.args.line c.args.said.now c.args.report.now _ c.args.trails.now c.from_residual.ensures.1

pub returns-in-Err : goal.returns-in-Err
returns-in-Err c = λ earlier are.
    let session = c.args.said.now.session in
    entries_fault earlier c.args.phase c.args.line c.args.said.now c.args.report.now c.cut_entries.new.trail _ c.in-Err.fault
    (eq-eqb _ _ c.if-report-said.false)
    (subst (λ (z : List Line). AreEntriesCut (told_by session fresh earlier) c.args.line z c.args.report.now (Err c.in-Err.fault) c.cut_entries.new.trail)
    (c.as_slice.ensures.value ∙ c.in_ok-lines.ensures)
    (c.in-Err.ensures (told_by session fresh earlier) (ap trimmed c.take_trail-trail.ensures.own ∙ are session)))

pub returns-in_err-keep_trail : goal.returns-in_err-keep_trail
returns-in_err-keep_trail c = λ earlier are. block_refused earlier c.args.phase c.args.line c.args.said.now c.args.report.now _ c.keep_trail.new.trails c.from_residual-in_err-keep_trail.ensures.1

pub returns : goal.returns
returns c = λ earlier are.
    let session = c.args.said.now.session in
    block_done earlier c.args.phase c.args.line c.args.said.now c.args.report.now c.in_ok-lines.lines c.as_slice.result.now c.in-Ok.ends
    c.args.trails.now c.take_trail-trail.new.trails c.keep_trail.new.trails c.cut_entries.new.trail (eq-eqb _ _ c.if-report-said.false)
    c.as_slice.ensures.value c.in_ok-lines.ensures are
    (c.in-Ok.ensures (told_by session fresh earlier) (ap trimmed c.take_trail-trail.ensures.own ∙ are session))
    c.take_trail-trail.ensures.others c.in_ok-keep_trail.ensures
