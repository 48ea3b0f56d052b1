use Rattle.pfs_check_orders.proofs.OrderFacts.{read_asked, read_ready}
use Rattle.pfs_check_orders.proofs.asking.reply_to.Goals as goal

pub returns-in-Show-clause-ready : goal.returns-in-Show-clause-ready
returns-in-Show-clause-ready c =
    read_ready c.args.admin.now c.note.new.self c.args.blank.now c.note.ensures.step c.requires.ready

pub returns-in-Show-clause-asked : goal.returns-in-Show-clause-asked
returns-in-Show-clause-asked c = read_asked c.args.admin.now c.args.what.now c.args.log.now c.in-Show.is
