use Rattle.std.proofs.Common.{sym, ◌∙◌, ap}
use Rattle.std.proofs.lemmas.Result.{on_ok_weaker}
use Rattle.pfs_check_tickets.specs.RisingPuts.{put_in}
use Rattle.pfs_check_tickets.proofs.RisingFacts.{puts_more, puts_same}
use Rattle.pfs_check_tickets.proofs.rising.note_put.Goals as goal

pub returns-in-Some : goal.returns-in-Some
returns-in-Some c = on_ok_weaker c.add_put.result
    (λ step earlier place entry before.
    puts_more c.args.puts.now c.add_put.new.puts earlier place c.in-Some.put (ap put_in entry ∙ sym c.in-Some.ensures) step before)
    c.add_put.ensures

pub returns-in-None : goal.returns-in-None
returns-in-None c = λ earlier place entry before. puts_same c.args.puts.now earlier place (ap put_in entry ∙ sym c.in-None.ensures) before
