use Rattle.std.proofs.Common.{sym, subst}
use Rattle.pfs_check_causes.specs.TicketPuts.{ArePhased}
use Rattle.pfs_check_causes.proofs.PutFacts.{phased, put_is}
use Rattle.pfs_check_causes.proofs.puts.is_put.Goals as goal

pub returns : goal.returns
returns c = λ all known rises.
    put_is c.args.puts.now all c.args.key c.args.floor c.args.seat.session c.args.seat.phase c.top_of-top.result c.others_of-others.result
    c.reaches.result known rises (c.top_of-top.ensures (subst ArePhased (sym (known c.args.key)) (phased c.args.key all rises)))
    c.others_of-others.ensures c.reaches.ensures
