use Rattle.std.proofs.Common.{refl, ◌+◌, ◌-◌, ◌∙◌, ap, drop, min, take}
use Rattle.pfs_model.specs.Chains.{times}
use Rattle.pfs_check_setup.specs.DueSets.{is_set_of}
use Rattle.pfs_check_setup.specs.PrintedActions.{count_in}
use Rattle.pfs_check_setup.proofs.DueFacts.{words_more, words_whole}
use Rattle.pfs_check_setup.proofs.dues.count_sets.Goals as goal

pub loop-place-init : goal.loop-place-init
loop-place-init c = λ word. refl

pub loop-place-preserved : goal.loop-place-preserved
loop-place-preserved c =
    words_more c.args.entries.now.entries c.loop-place.place c.min-end.result c.entry.result (count_in c.loop-place.counts) (count_in c.count_set.new.counts)
    (λ word. times (is_set_of word) (take (c.min-end.result - c.args.order.start) (drop c.args.order.start c.args.entries.now.entries)) + count_in c.args.counts.now word)
    c.loop-place-test.true c.entry.ensures c.in_ok-count_set.ensures c.loop-place.invariant

pub returns : goal.returns
returns c = words_whole c.args.entries.now.entries c.args.order c.loop-place.place c.min-end.result (count_in c.args.counts.now) (count_in c.loop-place.counts)
    c.loop-place-test.false (c.min-end.ensures ∙ ap (min c.args.order.end) c.count.ensures.count) c.loop-place.invariant
