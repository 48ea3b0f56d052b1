use Rattle.std.proofs.Common.{length, sym, subst, List, Some, None}
use Rattle.pfs_model.specs.Chains.{action_change}
use Rattle.pfs_check_faults.specs.ReportCases.{entries_of, terms_in}
use Rattle.pfs_check_orders.specs.declared.orders.Order.{Order}
use Rattle.pfs_check_versions.specs.VersionRules.{IsIndex}
use Rattle.pfs_check_moves.specs.AskedMoves.{AreOrdered}
use Rattle.pfs_check_moves.specs.MovesRules.{AreActionsMoved, KnowsMoves, given_in}
use Rattle.pfs_check_moves.proofs.RuleFacts.{actions_chained, are_ordered, had_before, is_kept, moves_kept, moves_wrong}
use Rattle.pfs_check_moves.proofs.judging.judge_moves.Goals as goal

pub returns-in-None : goal.returns-in-None
returns-in-None c = λ case found same blocks keeps never index are is.
    let knows : KnowsMoves c.args.report.now (given_in case found) c.args.shelf.now (entries_of found) c.in_ok-printed.printed.kept c.args.actions.now = record {
      printed_are = c.in_ok-printed.ensures case found blocks;
      index = subst (λ z. IsIndex action_change z (entries_of found) c.args.actions.now.made) same index;
      chained = actions_chained case found keeps;
      kept = is_kept c.kept.ensures case found c.args.shelf.now is;
      before = had_before case found keeps;
    } in
    let ordered : AreOrdered (terms_in case found).asked (entries_of found) c.args.orders.now.entries.entries c.as_slice.result.now =
    subst (AreOrdered (terms_in case found).asked (entries_of found) c.args.orders.now.entries.entries) (sym c.as_slice.ensures.value)
    (are_ordered case found c.args.orders.now keeps are) in
    moves_kept c.acted.ensures c.idle.ensures case found c.args.shelf.now c.args.orders.now c.args.report.now keeps never is are
    (subst (λ (z : List Order). AreActionsMoved c.args.report.now (given_in case found) c.args.shelf.now (terms_in case found).asked (entries_of found) (length z) None)
    c.as_slice.ensures.value
    (subst (AreActionsMoved c.args.report.now (given_in case found) c.args.shelf.now (terms_in case found).asked (entries_of found) (length c.as_slice.result.now)) c.in-None.is
    (c.in_ok-line.ensures c.args.report.now (given_in case found) (terms_in case found).asked (entries_of found) knows ordered)))

pub returns : goal.returns
returns c = λ case found same blocks keeps never index are is.
    let knows : KnowsMoves c.args.report.now (given_in case found) c.args.shelf.now (entries_of found) c.in_ok-printed.printed.kept c.args.actions.now = record {
      printed_are = c.in_ok-printed.ensures case found blocks;
      index = subst (λ z. IsIndex action_change z (entries_of found) c.args.actions.now.made) same index;
      chained = actions_chained case found keeps;
      kept = is_kept c.kept.ensures case found c.args.shelf.now is;
      before = had_before case found keeps;
    } in
    let ordered : AreOrdered (terms_in case found).asked (entries_of found) c.args.orders.now.entries.entries c.as_slice.result.now =
    subst (AreOrdered (terms_in case found).asked (entries_of found) c.args.orders.now.entries.entries) (sym c.as_slice.ensures.value)
    (are_ordered case found c.args.orders.now keeps are) in
    moves_wrong case found c.args.shelf.now c.args.orders.now c.args.report.now c.in-Some.line same keeps never are
    (subst (λ (z : List Order). AreActionsMoved c.args.report.now (given_in case found) c.args.shelf.now (terms_in case found).asked (entries_of found) (length z) (Some c.in-Some.line))
    c.as_slice.ensures.value
    (subst (AreActionsMoved c.args.report.now (given_in case found) c.args.shelf.now (terms_in case found).asked (entries_of found) (length c.as_slice.result.now)) c.in-Some.is
    (c.in_ok-line.ensures c.args.report.now (given_in case found) (terms_in case found).asked (entries_of found) knows ordered)))
