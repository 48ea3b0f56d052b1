use Rattle.std.proofs.Common.{◌∙◌, Some, None, ap, sym}
use Rattle.pfs_session.specs.Ends.{no_numbers}
use Rattle.pfs_play.specs.Errand as ask
use Rattle.pfs_play.specs.Errands.{errand_on}
use Rattle.pfs_play.proofs.ErrandParts.{ended_ran, spent_ran, staged_ran, started_ran, stage_depth}
use Rattle.pfs_play.proofs.HeldBounds.{played_wide}
use Rattle.pfs_play.proofs.events.play_event.Goals as goal

pub returns-in-Wait-clause-run : goal.returns-in-Wait-clause-run
returns-in-Wait-clause-run g c = λ setting fixed change answers. started_ran setting fixed change c.args.line.now c.wait_on.result c.args.session.now c.start.new.self answers (g.R.Readable.seen c.args.rows.now).reached (g.R.Readable.seen c.start.new.rows).reached
    (ap errand_on c.in-Wait.is ∙ ap ask.Start (sym c.wait_on.ensures)) c.start.ensures.played

pub returns-in-TableWait-clause-run : goal.returns-in-TableWait-clause-run
returns-in-TableWait-clause-run g c = λ setting fixed change answers. started_ran setting fixed change c.args.line.now c.wait_on-in-TableWait.result c.args.session.now c.start-in-TableWait.new.self answers (g.R.Readable.seen c.args.rows.now).reached (g.R.Readable.seen c.start-in-TableWait.new.rows).reached
    (ap errand_on c.in-TableWait.is ∙ ap ask.Start (sym c.wait_on-in-TableWait.ensures)) c.start-in-TableWait.ensures.played

pub returns-in-Statement-clause-run : goal.returns-in-Statement-clause-run
returns-in-Statement-clause-run g c = λ setting fixed change answers. started_ran setting fixed change c.args.line.now c.statement_on.result c.args.session.now c.start-in-Statement.new.self answers (g.R.Readable.seen c.args.rows.now).reached (g.R.Readable.seen c.start-in-Statement.new.rows).reached
    (ap errand_on c.in-Statement.is ∙ ap ask.Start (sym c.statement_on.ensures)) c.start-in-Statement.ensures.played

pub returns-in-Transaction-clause-run : goal.returns-in-Transaction-clause-run
returns-in-Transaction-clause-run g c = λ setting fixed change answers. started_ran setting fixed change c.args.line.now c.transaction_on.result c.args.session.now c.start-in-Transaction.new.self answers (g.R.Readable.seen c.args.rows.now).reached (g.R.Readable.seen c.start-in-Transaction.new.rows).reached
    (ap errand_on c.in-Transaction.is ∙ ap ask.Start (sym c.transaction_on.ensures)) c.start-in-Transaction.ensures.played

pub returns-in-Stage-clause-run : goal.returns-in-Stage-clause-run
returns-in-Stage-clause-run g c = λ setting fixed change answers. staged_ran setting fixed change c.args.line.now (Some c.stage_on.result) c.args.session.now c.stage.new.self answers (g.R.Readable.seen c.args.rows.now).reached (g.R.Readable.seen c.stage.new.rows).reached
    (ap errand_on c.in-Stage.is ∙ ap (λ subject. ask.Stage (Some subject)) (sym c.stage_on.ensures)) c.stage.ensures.played

pub returns-in-Stage-clause-depth : goal.returns-in-Stage-clause-depth
returns-in-Stage-clause-depth g c = stage_depth (Some c.stage_on.result) c.args.session.now.state.opened c.stage.new.self.state.opened c.stage.ensures.opened

pub returns-in-Stage-clause-wide : goal.returns-in-Stage-clause-wide
returns-in-Stage-clause-wide g c =
    played_wide _ c.args.session.now c.stage.new.self (g.R.Readable.seen c.args.rows.now).reached (g.R.Readable.seen c.stage.new.rows).reached c.stage.ensures.played c.requires.wide

pub returns-in-StageEnd-clause-run : goal.returns-in-StageEnd-clause-run
returns-in-StageEnd-clause-run g c = λ setting fixed change answers. staged_ran setting fixed change c.args.line.now None c.args.session.now c.stage-in-StageEnd.new.self answers (g.R.Readable.seen c.args.rows.now).reached (g.R.Readable.seen c.stage-in-StageEnd.new.rows).reached
    (ap errand_on c.in-StageEnd.is) c.stage-in-StageEnd.ensures.played

pub returns-in-StageEnd-clause-depth : goal.returns-in-StageEnd-clause-depth
returns-in-StageEnd-clause-depth g c = stage_depth None c.args.session.now.state.opened c.stage-in-StageEnd.new.self.state.opened c.stage-in-StageEnd.ensures.opened

pub returns-in-StageEnd-clause-wide : goal.returns-in-StageEnd-clause-wide
returns-in-StageEnd-clause-wide g c =
    played_wide _ c.args.session.now c.stage-in-StageEnd.new.self (g.R.Readable.seen c.args.rows.now).reached (g.R.Readable.seen c.stage-in-StageEnd.new.rows).reached c.stage-in-StageEnd.ensures.played c.requires.wide

pub returns-in-Spend-clause-run : goal.returns-in-Spend-clause-run
returns-in-Spend-clause-run g c = λ setting fixed change answers. spent_ran setting fixed change c.args.line.now c.in-Spend.time c.args.session.now c.spend.new.self answers (g.R.Readable.seen c.args.rows.now).reached
    (ap errand_on c.in-Spend.is) c.spend.ensures.does c.spend.ensures.journal

pub returns-in-End-clause-run : goal.returns-in-End-clause-run
returns-in-End-clause-run g c = λ setting fixed change answers. ended_ran setting fixed change c.args.line.now no_numbers c.args.session.now c.end.new.session answers (g.R.Readable.seen c.args.rows.now).reached (g.R.Readable.seen c.end.new.rows).reached
    (ap errand_on c.in-End.is) (c.end.ensures.run fixed change)

pub returns-in-EndStatement-clause-run : goal.returns-in-EndStatement-clause-run
returns-in-EndStatement-clause-run g c = λ setting fixed change answers. ended_ran setting fixed change c.args.line.now c.numbers_in.result c.args.session.now c.end-in-EndStatement.new.session answers (g.R.Readable.seen c.args.rows.now).reached (g.R.Readable.seen c.end-in-EndStatement.new.rows).reached
    (ap errand_on c.in-EndStatement.is ∙ ap ask.End (sym c.numbers_in.ensures)) (c.end-in-EndStatement.ensures.run fixed change)

pub returns-in-Repeat-clause-run : goal.returns-in-Repeat-clause-run
returns-in-Repeat-clause-run g c = λ setting fixed change answers. spent_ran setting fixed change c.args.line.now 0 c.args.session.now c.spend-in-Repeat.new.self answers (g.R.Readable.seen c.args.rows.now).reached
    (ap errand_on c.in-Repeat.is) c.spend-in-Repeat.ensures.does c.spend-in-Repeat.ensures.journal

pub returns-in-Done-clause-run : goal.returns-in-Done-clause-run
returns-in-Done-clause-run g c = λ setting fixed change answers. spent_ran setting fixed change c.args.line.now 0 c.args.session.now c.spend-in-Done.new.self answers (g.R.Readable.seen c.args.rows.now).reached
    (ap errand_on c.in-Done.is) c.spend-in-Done.ensures.does c.spend-in-Done.ensures.journal
