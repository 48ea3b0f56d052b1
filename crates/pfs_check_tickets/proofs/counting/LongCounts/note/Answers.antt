use Rattle.std.proofs.Common.{◌∙◌}
use Rattle.std.proofs.lemmas.Result.{on_ok_weaker}
use Rattle.pfs_check_tickets.proofs.CountFacts.{counted_more_at, counted_same}
use Rattle.pfs_check_tickets.proofs.counting.LongCounts.note.Goals as goal

pub returns-in-Some : goal.returns-in-Some
returns-in-Some c = on_ok_weaker c.count.result (λ step earlier place phase put up known. step earlier place phase (put ∙ c.in-Some.is) up known)
    (counted_more_at c.args.self.now c.count.new.self c.args.phase c.kind_of.result c.in-Some.put c.count.result c.kind_of.ensures
    c.count.ensures.kinds c.count.ensures.phases)

pub returns-in-None : goal.returns-in-None
returns-in-None c = λ earlier place phase put up known. counted_same c.args.self.now earlier place (put ∙ c.in-None.is) known
