use Rattle.std.proofs.Common.{◌≡◌, suc, ◌+◌, length, sym, subst, arith}
use Rattle.pfs_check_setup.specs.DueSets.{AreAskedFor}
use Rattle.pfs_check_setup.specs.SetupRules.{AreActionsAsked}
use Rattle.pfs_check_setup.proofs.FaultFacts.{fewer_asked, none_asked_yet, none_counted, one_asked, ordered_at}
use Rattle.pfs_check_setup.proofs.faults.first_fault.Goals as goal

pub loop-before-init : goal.loop-before-init
loop-before-init c = λ report asked all knows ordered. (
  none_asked_yet report asked all,
  none_counted asked c.no_counts-counts.result c.no_counts-counts.ensures,
)

pub loop-before-preserved : goal.loop-before-preserved
loop-before-preserved c = λ report asked all knows ordered.
    let before = c.loop-before.before in
    let so = c.loop-before.invariant report asked all knows ordered in
    let next : suc before ≡ before + 1 = omega arith in
    let asks = c.in_ok-next.ensures.line report asked all knows (omega (arith, c.loop-before-test.true, ordered.count))
    (ordered_at asked all c.args.entries.now.entries c.args.orders.now before _ ordered c.loop-before-test.true) so.1 in (
      subst (λ z. AreActionsAsked report asked all z c.lower_line-line.result) next
          (subst (AreActionsAsked report asked all (suc before)) (sym c.lower_line-line.ensures)
          (one_asked report asked all before c.loop-before.line c.in_ok-next.next so.0 asks)),
      subst (AreAskedFor asked c.ask_one.new.counts) next (c.in_ok-next.ensures.counts asked
          (ordered_at asked all c.args.entries.now.entries c.args.orders.now before _ ordered c.loop-before-test.true) so.1),
    )

pub returns : goal.returns
returns c = λ report asked all knows ordered.
    fewer_asked report asked all (length c.args.orders.now) c.loop-before.before c.loop-before.line c.loop-before-test.false
    (c.loop-before.invariant report asked all knows ordered).0
