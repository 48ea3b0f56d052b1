use Rattle.std.proofs.Common.{◌∙◌, sym}
use Rattle.pfs_check_changes.proofs.StandingNumbers.{ended_by, inside_by}
use Rattle.pfs_check_changes.proofs.repeats.put_inside.Goals as goal

pub returns-then-is_done-clause-own : goal.returns-then-is_done-clause-own
returns-then-is_done-clause-own c = λ whole rest written.
    ended_by whole c.args.changes.now.items c.args.numbers.now.items c.put_copies.new.numbers.items c.args.repeat c.args.said.now rest
    (sym c.is_done.ensures ∙ c.if-is_done.true) c.in_ok-put_copies.ensures written

pub returns-clause-own : goal.returns-clause-own
returns-clause-own c = λ whole rest written.
    inside_by whole c.args.changes.now.items c.put_line.new.changes.items c.args.numbers.now.items c.put_line.new.numbers.items c.args.repeat
    c.args.said.now rest (sym c.is_done.ensures ∙ c.if-is_done.false) c.in_ok-put_line.ensures.own written
