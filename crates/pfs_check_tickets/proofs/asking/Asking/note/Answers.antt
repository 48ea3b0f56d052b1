use Rattle.std.proofs.Common.{refl, sym, ◌∙◌, ap}
use Rattle.std.proofs.lemmas.Result.{on_ok_weaker}
use Rattle.pfs_check_tickets.proofs.ShownFacts.{shown_same}
use Rattle.pfs_check_tickets.proofs.asking.Asking.note.Goals as goal

pub returns-in-Some-clause-shown : goal.returns-in-Some-clause-shown
returns-in-Some-clause-shown c = on_ok_weaker c.note.result
    (λ step earlier place phase session put before. step earlier place phase session (put ∙ c.in-Some.is) before) c.note.ensures

pub returns-in-None-clause-shown : goal.returns-in-None-clause-shown
returns-in-None-clause-shown c = λ earlier place phase session put before.
    shown_same c.args.self.now.shown earlier place (put ∙ c.in-None.is) before
