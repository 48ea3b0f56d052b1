use Rattle.pfs_check_brought.proofs.WalkFacts.{left_all, settled_all, walked_none, walked_stop}
use Rattle.pfs_check_brought.proofs.bringing.Bringing.stopped.Goals as goal

pub returns-in-Some : goal.returns-in-Some
returns-in-Some c = λ flags all known. walked_stop flags all c.args.self.now c.in-Some.stop c.in-Some.is known

pub returns-then-settled : goal.returns-then-settled
returns-then-settled c = λ flags all known.
    settled_all flags all c.args.self.now c.is_settled-settled.result (walked_none flags all c.args.self.now c.in_default.is known)
    c.is_settled-settled.ensures c.if-settled.true

pub returns : goal.returns
returns c = λ flags all known.
    left_all flags all c.args.self.now c.is_settled-settled.result (walked_none flags all c.args.self.now c.in_default.is known)
    c.is_settled-settled.ensures c.if-settled.false
