use Rattle.std.proofs.Common.{◌∙◌, ap}
use Rattle.pfs_check_facts.specs.SessionFacts.{facts_told}
use Rattle.pfs_check_amounts.specs.EventTerms.{measured}
use Rattle.pfs_check_amounts.proofs.amounts.EventTerms.amount.Goals as goal

pub returns : goal.returns
returns c = λ given gives.
    c.measured.ensures
    ∙ ap (λ z. measured z (facts_told c.facts-facts.result)) (c.is_timed-timed.ensures given.flags (given.slots c.args.session) gives.flags)
    ∙ ap (measured _) (c.facts-facts.ensures ∙ gives.facts c.args.session c.args.event.now.index)
