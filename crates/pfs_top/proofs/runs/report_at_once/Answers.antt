use Rattle.std.proofs.Common.{Option, subst, sym}
use Rattle.pfs_board_store.specs.declared.rows.Seats.{Seats}
use Rattle.pfs_outside.specs.DeviceCalls.{Rose}
use Rattle.pfs_top.specs.declared.statuses.Status.{Status}
use Rattle.pfs_top.specs.Commands.{HasReport, HasStore, RunOn, Tells}
use Rattle.pfs_top.proofs.Outcomes.{recorded_told, handed_on}
use Rattle.pfs_top.proofs.runs.report_at_once.Goals as goal

pub returns-in-Ok-clause-told : goal.returns-in-Ok-clause-told
returns-in-Ok-clause-told g c =
    let written = g.K.Sink.written in
    let faults = g.K.Sink.faults in
    let setting = c.args.script.now.setting in
    let phases = c.args.script.now.phases in
    let before = written c.args.sink.now in
    let after = written c.write_report.new.sink in
    let W = Rose (faults c.args.sink.now) (faults c.write_report.new.sink) in
    let store = c.in-Ok.recorded.store in
    let told = recorded_told setting phases c.in-Ok.recorded.report store c.in-Ok.ensures before after W c.write_report.result c.write_report.ensures in
    let named = subst (λ (kept : Option Seats). Tells (HasReport (RunOn kept) setting phases) before after W c.write_report.result) (sym c.end_of.ensures.store) told in
    subst (λ (s : Status). Tells (HasReport (RunOn c.end_of.result.store) setting phases) before after W s) (sym c.end_of.ensures.status) named

pub returns-in-Ok-clause-store : goal.returns-in-Ok-clause-store
returns-in-Ok-clause-store g c =
    let store = c.in-Ok.recorded.store in
    let named = subst (λ (kept : Option Seats). HasStore (Unit {0}) c.write_report.result kept) (sym c.end_of.ensures.store) (handed_on c.write_report.result store) in
    subst (λ (s : Status). HasStore (Unit {0}) s c.end_of.result.store) (sym c.end_of.ensures.status) named
