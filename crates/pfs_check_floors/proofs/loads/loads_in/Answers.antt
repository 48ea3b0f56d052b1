use Rattle.std.proofs.Common.{◌++◌, ◌∙◌, sym, ap}
use Rattle.pfs_model.specs.Chains.{word_change}
use Rattle.pfs_model.specs.Contexts.{subject_of}
use Rattle.pfs_model.specs.SetupFlags.{loads_at}
use Rattle.pfs_check_floors.proofs.loads.loads_in.Goals as goal

pub returns : goal.returns
returns c = λ place line slot entry.
    c.loads_at.ensures place.context slot
    ∙ sym (ap (λ z. loads_at (subject_of place.line) place.context z ++ word_change z) entry
    ∙ ap (λ z. loads_at (subject_of z) place.context c.args.entry.now ++ word_change c.args.entry.now) line
    ∙ ap (λ z. loads_at z place.context c.args.entry.now ++ word_change c.args.entry.now) (sym c.subject_in-subject.ensures))
