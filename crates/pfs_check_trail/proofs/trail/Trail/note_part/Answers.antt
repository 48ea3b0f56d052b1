use Rattle.std.proofs.Common.{◌-◌, arith, drop, take}
use Rattle.pfs_check_trail.proofs.TrailSteps.{noted_all, noted_one}
use Rattle.pfs_check_trail.proofs.trail.Trail.note_part.Goals as goal

pub loop-place-preserved : goal.loop-place-preserved
loop-place-preserved c = noted_one c.subject_in-subject.result c.args.self.now c.loop-place.self _ c.args.entries.now
    (take (c.args.to - c.args.from) (drop c.args.from c.args.entries.now)) c.loop-place.place c.args.to _ c.entry.ensures
    (omega arith) c.loop-place-test.true c.in_ok-note.ensures c.loop-place.invariant

pub returns : goal.returns
returns c = noted_all _ c.subject_in-subject.result c.args.self.now c.loop-place.self c.args.entries.now
    (take (c.args.to - c.args.from) (drop c.args.from c.args.entries.now)) c.loop-place.place c.args.to
    c.subject_in-subject.ensures c.loop-place-test.false c.loop-place.invariant
