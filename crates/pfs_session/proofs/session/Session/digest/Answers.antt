use Rattle.std.proofs.Common.{rules, refl, ap}
use Rattle.std.proofs.lemmas.List.{with_items_is}
use Rattle.pfs_session.proofs.EventSteps.{digest_from, digest_none}
use Rattle.pfs_session.specs.SessionStates.{Book}
use Rattle.pfs_session.proofs.HeldAmounts.{finish_owes}
use Rattle.pfs_session.proofs.session.Session.digest.Goals as goal

pub returns-clause-digested : goal.returns-clause-digested
returns-clause-digested g c =
    digest_from _ c.args.self.now _ c.in-Some.slot c.digest_number.result c.bring.result c.amount_of-amount.result c.args.what.now c.args.numbers.now
    _ c.bring.new.held _ _ _ c.self.view_is c.in-Some.is (search rules) c.digest_number.ensures.number c.amount_of-amount.ensures c.as_mut_slice.ensures.value
    c.bring.ensures.brings (with_items_is c.self.inside.held c.bring.new.held (search rules)) refl

pub returns-then-not-what-clause-digested : goal.returns-then-not-what-clause-digested
returns-then-not-what-clause-digested g c =
    digest_none c.args.self.now c.args.self.now c.in-Some.slot c.args.what.now c.args.numbers.now _ (search rules) (search rules) refl

pub returns-clause-owed : goal.returns-clause-owed
returns-clause-owed g c =
    let last = with_items_is c.self.inside.held c.bring.new.held (search rules) in
    finish_owes _ c.args.self.now.state _ _ _ _ _ (ap (λ (b : Book). b.state) c.self.view_is) c.as_mut_slice.ensures.value c.bring.ensures.brings.held_is last
