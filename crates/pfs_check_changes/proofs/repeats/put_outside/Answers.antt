use Rattle.std.proofs.Common.{ap, length, sym}
use Rattle.pfs_check_changes.proofs.StandingNumbers.{begun_by, outside_by}
use Rattle.pfs_check_changes.proofs.repeats.put_outside.Goals as goal

pub returns-in-Some-clause-own : goal.returns-in-Some-clause-own
returns-in-Some-clause-own c = λ whole rest written.
    begun_by whole c.args.changes.now.items c.args.numbers.now.items c.args.said.now rest c.in-Some.times _ (sym c.in-Some.ensures)
    (ap length c.as_slice.ensures.value) written

pub returns-in_ok-put_line-in-None-clause-own : goal.returns-in_ok-put_line-in-None-clause-own
returns-in_ok-put_line-in-None-clause-own c = λ whole rest written.
    outside_by whole c.args.changes.now.items c.put_line.new.changes.items c.args.numbers.now.items c.put_line.new.numbers.items c.args.said.now rest
    (sym c.in-None.ensures) c.in_ok-put_line-in-None.ensures.own written
