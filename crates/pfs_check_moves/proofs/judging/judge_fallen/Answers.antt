use Rattle.std.proofs.Common.{length, sym, subst, List}
use Rattle.pfs_model.specs.Chains.{action_change}
use Rattle.pfs_check_faults.specs.declared.rules.Rule.TheVariants as rules
use Rattle.pfs_check_faults.specs.Judgements.{IsFirstFault}
use Rattle.pfs_check_faults.specs.ReportCases.{entries_of, terms_in}
use Rattle.pfs_check_orders.specs.declared.orders.Order.{Order}
use Rattle.pfs_check_versions.specs.VersionRules.{IsIndex}
use Rattle.pfs_check_moves.specs.AskedMoves.{AreOrdered}
use Rattle.pfs_check_moves.specs.MovesRules.{AreActionsMoved, KnowsMoves, given_in}
use Rattle.pfs_check_moves.proofs.RuleFacts.{actions_chained, are_ordered, fallen, had_before}
use Rattle.pfs_check_moves.proofs.judging.judge_fallen.Goals as goal

pub returns : goal.returns
returns c = λ case found same blocks keeps index are kept lacks.
    let knows : KnowsMoves c.args.report.now (given_in case found) c.args.shelf.now (entries_of found) c.in_ok-printed.printed.kept c.args.actions.now = record {
      printed_are = c.in_ok-printed.ensures case found blocks;
      index = subst (λ z. IsIndex action_change z (entries_of found) c.args.actions.now.made) same index;
      chained = actions_chained case found keeps;
      kept = kept;
      before = had_before case found keeps;
    } in
    let ordered : AreOrdered (terms_in case found).asked (entries_of found) c.args.orders.now.entries.entries c.as_slice.result.now =
    subst (AreOrdered (terms_in case found).asked (entries_of found) c.args.orders.now.entries.entries) (sym c.as_slice.ensures.value)
    (are_ordered case found c.args.orders.now keeps are) in
    subst (IsFirstFault rules.Moves case found) (sym c.lower_of.ensures)
    (fallen case found c.args.shelf.now c.args.orders.now c.args.report.now c.in_ok-printed.printed.kept c.args.actions.now c.args.fall c.in_ok-line.line same keeps are knows lacks
    (subst (λ (z : List Order). AreActionsMoved c.args.report.now (given_in case found) c.args.shelf.now (terms_in case found).asked (entries_of found) (length z) c.in_ok-line.line)
    c.as_slice.ensures.value
    (c.in_ok-line.ensures c.args.report.now (given_in case found) (terms_in case found).asked (entries_of found) knows ordered)))
