use Rattle.std.proofs.Common.{[]}
use Rattle.pfs_check_reached.specs.ReachedChanges.{IsWalked}
use Rattle.pfs_check_reached.proofs.WalkFacts.{are_reached}
use Rattle.pfs_check_reached.proofs.reaching.reach.Goals as goal

pub returns-in-None : goal.returns-in-None
returns-in-None c =
    let walked : IsWalked c.args.changes.now c.next.new.self [] = c.in-None.ensures c.args.changes.now c.loop-turn.invariant in
    are_reached c.once.ensures c.args.changes.now c.next.new.self.reached c.next.new.self.waiting.kept walked.sound walked.opened

pub returns-in-None-next : goal.returns-in-None-next
returns-in-None-next c =
    let walked : IsWalked c.args.changes.now c.next-2.new.self [] = c.in-None-next.ensures c.args.changes.now c.loop-turn.invariant in
    are_reached c.once.ensures c.args.changes.now c.next-2.new.self.reached c.next-2.new.self.waiting.kept walked.sound walked.opened
