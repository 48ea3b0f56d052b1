use Rattle.pfs_check_faults.specs.ReportCases.{flags_in}
use Rattle.pfs_check_walk.specs.Walks.{place_of}
use Rattle.pfs_check_verdicts.proofs.VerdictFacts.{judged_visit}
use Rattle.pfs_check_verdicts.proofs.verdicts.JudgingVerdictsVisit.visit.Goals as goal

pub returns : goal.returns
returns g c = λ case found earlier context told known.
    judged_visit case found earlier (place_of c.args._spot c.args.line.now context c.args.entry.now) c.args.self.now c.is_judged-kept.result known
    (c.is_judged-kept.ensures (flags_in case found) context known.flags told)
