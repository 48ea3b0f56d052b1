use Rattle.std.proofs.Common.{sym, ◌∙◌, ap}
use Rattle.std.proofs.lemmas.Result.{on_ok_weaker}
use Rattle.pfs_check_causes.specs.TicketPuts.{put_of}
use Rattle.pfs_check_causes.proofs.PutFacts.{puts_more, puts_same}
use Rattle.pfs_check_causes.proofs.puts.note_put.Goals as goal

pub returns-in-Some : goal.returns-in-Some
returns-in-Some c = on_ok_weaker c.push_top.result
    (λ step places place phase session entry before.
    puts_more c.args.puts.now c.push_top.new.puts places place c.in-Some.put c.args.phase c.args.session phase session
    (ap put_of entry ∙ sym c.in-Some.ensures) step before)
    c.push_top.ensures

pub returns-in-None : goal.returns-in-None
returns-in-None c = λ places place phase session entry before.
    puts_same c.args.puts.now places place (ap put_of entry ∙ sym c.in-None.ensures) before
