use Rattle.std.proofs.Common.{rules, refl, ap}
use Rattle.std.proofs.lemmas.List.{with_items_is}
use Rattle.pfs_session.proofs.EventSteps.{count_from}
use Rattle.pfs_session.specs.SessionStates.{Book}
use Rattle.pfs_session.proofs.HeldAmounts.{finish_owes}
use Rattle.pfs_session.proofs.session.Session.count.Goals as goal

pub returns-clause-counted : goal.returns-clause-counted
returns-clause-counted g c =
    count_from _ c.args.self.now _ c.in-Some.slot c.cell_number.result c.load_word-consumers.result c.load_word-thread.result c.bring-summary.result c.amount_of-amount.result
    c.args.what.now c.args.numbers.now c.push.new.self _ c.bring-summary.new.held _ _ _ _ _ c.self.view_is c.in-Some.is c.load_word-consumers.ensures.goes
    c.load_word-thread.ensures.goes (ap (λ j. j.entries) c.push.ensures) c.cell_number.ensures.number c.amount_of-amount.ensures c.as_mut_slice.ensures.value
    c.bring-summary.ensures.brings (with_items_is c.self.inside.held c.bring-summary.new.held (search rules)) refl

pub returns-clause-owed : goal.returns-clause-owed
returns-clause-owed g c =
    let last = with_items_is c.self.inside.held c.bring-summary.new.held (search rules) in
    finish_owes _ c.args.self.now.state _ _ _ _ _ (ap (λ (b : Book). b.state) c.self.view_is) c.as_mut_slice.ensures.value c.bring-summary.ensures.brings.held_is last
