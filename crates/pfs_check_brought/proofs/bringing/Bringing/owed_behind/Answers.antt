use Rattle.std.proofs.Common.{sym, ◌∙◌, ap}
use Rattle.pfs_check_brought.specs.KeptDues.{owed_of, started_by}
use Rattle.pfs_model.specs.Contexts.{subject_of}
use Rattle.pfs_check_brought.proofs.DueFacts.{after_end, after_rest, after_start}
use Rattle.pfs_check_brought.proofs.bringing.Bringing.owed_behind.Goals as goal

pub returns-in-Start : goal.returns-in-Start
returns-in-Start g c = λ flags earlier place given histories told session line entry.
    after_start flags earlier place c.args.entry.now c.started-begins.result (owed_of c.args.self.now.owed) _ _ _ _ _ _ _ entry c.in-Start.is
    (c.started-begins.ensures ∙ ap (λ z. started_by (subject_of z) c.args.entry.now) (sym line))
    (c.dues_at_start.ensures flags place.context given told)

pub returns-in-End : goal.returns-in-End
returns-in-End g c = λ flags earlier place given histories told session line entry.
    after_end flags earlier place c.args.entry.now (owed_of c.args.self.now.owed) _ _ _ _ _ entry c.in-End.is
    (c.dues_at_end.ensures flags earlier place given histories told session)

pub returns-in_default : goal.returns-in_default
returns-in_default g c = λ flags earlier place given histories told session line entry.
    after_rest flags earlier place c.args.entry.now (owed_of c.args.self.now.owed) (owed_of c.left_behind.result) entry c.in_default.not-Start
    c.in_default.not-End c.left_behind.ensures
