use Rattle.std.proofs.Common.{sym, ◌∙◌}
use Rattle.pfs_model.specs.Contexts.{subject_of}
use Rattle.pfs_check_verdicts.proofs.VerdictFacts.{none_judged, one_judged}
use Rattle.pfs_check_verdicts.proofs.deciding.is_judged.Goals as goal

pub returns-in-Some : goal.returns-in-Some
returns-in-Some g c = λ given context gives told.
    one_judged c.args.stack given (subject_of c.args.line.now) context c.args.entry.now c.in-Some.event c.verdict_due-due.result c.is_same.result
    (sym c.started.ensures ∙ c.in-Some.is) (c.verdict_due-due.ensures given context gives told) c.is_same.ensures

pub returns-in-None : goal.returns-in-None
returns-in-None g c = λ given context gives told.
    none_judged c.args.stack given (subject_of c.args.line.now) context c.args.entry.now (sym c.started.ensures ∙ c.in-None.is)
