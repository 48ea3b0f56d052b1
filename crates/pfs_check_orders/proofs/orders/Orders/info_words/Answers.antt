use Rattle.pfs_check_orders.specs.InfoWords.{words_or_none}
use Rattle.pfs_check_orders.proofs.InfoFacts.{words_first, words_found, words_missed}
use Rattle.pfs_check_orders.proofs.orders.Orders.info_words.Goals as goal

pub returns-then-number-eq0 : goal.returns-then-number-eq0
returns-then-number-eq0 c = λ setting change labels are. words_first setting change labels c.args.number c.args.row c.if-number-eq0.true

pub returns-in-Some : goal.returns-in-Some
returns-in-Some c = λ setting change labels are.
    words_found setting change labels c.args.self.now.infos.items c.as_slice-in-Some.result.now c.args.self.now.orders.items c.as_slice.result.now c.args.number
    c.args.row c.in-Some.order (words_or_none c.first_words.result) c.if-number-eq0.false are c.as_slice-in-Some.ensures.value c.as_slice.ensures.value
    c.in-Some.ensures c.first_words.ensures

pub returns-in-None : goal.returns-in-None
returns-in-None c = λ setting change labels are.
    words_missed setting change labels c.args.self.now.infos.items c.args.self.now.orders.items c.as_slice.result.now c.args.number
    c.args.row c.if-number-eq0.false are c.as_slice.ensures.value c.in-None.ensures
