use Rattle.std.proofs.Common.{sym, ◌∙◌, ap}
use Rattle.std.proofs.lemmas.Result.{on_ok_weaker}
use Rattle.pfs_model.specs.Chains.{row_change}
use Rattle.pfs_check_causes.proofs.OwnFacts.{own_more, own_same}
use Rattle.pfs_check_causes.proofs.own.note_own.Goals as goal

pub returns-in-Some : goal.returns-in-Some
returns-in-Some c = on_ok_weaker c.insert_own.result
    (λ step places place session entry before.
    own_more c.args.made.now c.insert_own.new.made places place c.args.session c.in-Some.change session
    (ap row_change entry ∙ sym c.in-Some.ensures) step before)
    c.insert_own.ensures

pub returns-in-None : goal.returns-in-None
returns-in-None c = λ places place session entry before.
    own_same c.args.made.now places place (ap row_change entry ∙ sym c.in-None.ensures) before
