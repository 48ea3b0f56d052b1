use Rattle.std.proofs.Common.{refl, arith}
use Rattle.pfs_check_versions.proofs.LabelSteps.{labelled_more, number_within}
use Rattle.pfs_check_versions.proofs.labelling.label_actions.Goals as goal

pub overflow_sub-one : goal.overflow_sub-one
overflow_sub-one c =
    let number = number_within c.args.actions.now c.loop-place.place
    (record { line = 0; phase = 0; session = 0; change = record { row = 0; version = 0 } }) c.loop-place-test.true
    (c.requires.linked c.loop-place.place c.loop-place-test.true) in
    omega (arith, number.0)

pub index_mut-requires : goal.index_mut-requires
index_mut-requires c =
    let number = number_within c.args.actions.now c.loop-place.place
    (record { line = 0; phase = 0; session = 0; change = record { row = 0; version = 0 } }) c.loop-place-test.true
    (c.requires.linked c.loop-place.place c.loop-place-test.true) in
    omega (arith, number.0, number.1, c.loop-place.invariant.few, c.loop-place.labels.ok.0)

pub loop-place-preserved : goal.loop-place-preserved
loop-place-preserved c =
    labelled_more c.args.actions.now _ _ c.loop-place.labels.items c.loop-place.place c.in_ok-line.line _ _ c.loop-place-test.true
    c.requires.linked c.requires.rows refl c.in_ok-line.ensures.now c.in_ok-line.ensures.each c.loop-place.invariant
