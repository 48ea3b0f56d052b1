use Rattle.std.proofs.Common.{◌∙◌, [], slice_index_or}
use Rattle.pfs_check_orders.specs.InfoWords.{infos_in, words_in}
use Rattle.pfs_check_orders.specs.declared.infos.Info.{Info}
use Rattle.pfs_check_orders.proofs.InfoFacts.{words_here, words_nowhere, words_on, words_whole}
use Rattle.pfs_check_orders.proofs.ListRanges.{get_within}
use Rattle.pfs_check_orders.proofs.infos.first_words.Goals as goal

pub returns-then-info-row : goal.returns-then-info-row
returns-then-info-row c = λ within.
    let none : Info = record { row = 0; words = [] } in
    words_here c.args.infos.now c.loop-place.place c.min-end.result c.args.row (slice_index_or c.args.infos.now c.loop-place.place none)
    (words_in (infos_in c.args.infos.now c.args.order) c.args.row) c.loop-place-test.true
    (get_within c.args.infos.now none c.loop-place.place c.min-end.result c.args.order.end_info c.loop-place-test.true c.min-end.ensures) c.if-info-row.true
    (c.loop-place.invariant ∙ words_whole c.args.infos.now c.args.order c.min-end.result c.args.row c.min-end.ensures within)

pub loop-place-preserved : goal.loop-place-preserved
loop-place-preserved c =
    let none : Info = record { row = 0; words = [] } in
    words_on c.args.infos.now c.loop-place.place c.min-end.result c.args.row (slice_index_or c.args.infos.now c.loop-place.place none) _ c.loop-place-test.true
    (get_within c.args.infos.now none c.loop-place.place c.min-end.result c.args.order.end_info c.loop-place-test.true c.min-end.ensures) c.if-info-row.false
    c.loop-place.invariant

pub returns : goal.returns
returns c = λ within.
    words_nowhere c.args.infos.now c.loop-place.place c.min-end.result c.args.row (words_in (infos_in c.args.infos.now c.args.order) c.args.row) c.loop-place-test.false
    (c.loop-place.invariant ∙ words_whole c.args.infos.now c.args.order c.min-end.result c.args.row c.min-end.ensures within)
