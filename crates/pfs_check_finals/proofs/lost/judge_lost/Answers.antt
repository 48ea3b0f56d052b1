use Rattle.std.proofs.Common.{◌+◌, ◌∙◌, ap, refl, subst}
use Rattle.std.specs.List.{slice_index_or}
use Rattle.pfs_journal.specs.ReportLines.{phase_lines}
use Rattle.pfs_model.specs.EntryPlaces.{up_to_phase}
use Rattle.pfs_runs.specs.ScriptLines.{change_in}
use Rattle.pfs_check_faults.specs.ReportCases.{entries_of}
use Rattle.pfs_check_line_numbers.proofs.EntryNumbers.{same_read}
use Rattle.pfs_check_line_numbers.proofs.LineSteps.{phase_reaches, reach_more}
use Rattle.pfs_check_orders.specs.ActionOrders.{AreOrders}
use Rattle.pfs_check_finals.specs.LostCounts.{no_losses}
use Rattle.pfs_check_finals.proofs.LostCases.{AreLostUp, IsLostCase, lost_all, lost_fails, lost_more, up_next}
use Rattle.pfs_check_finals.proofs.lost.judge_lost.Goals as goal

pub returns-in-Some : goal.returns-in-Some
returns-in-Some c = λ case found setting report blocks keeps orders.
    let of : IsLostCase c.args.setting.now c.args.cuts.now c.args.report.now c.args.orders.now case found =
    record { setting_is = setting; report_is = report; blocks = blocks; keeps = keeps; orders_are = orders } in
    let phases = c.as_slice-phases.result.now in
    let at = c.loop-at.at in
    let one = c.parts-parts.result.now in
    let read = same_read phases at c.index-phases-at.result one c.parts-parts.ensures.value c.index-phases-at.is in
    let up : AreLostUp c.in_ok-counted.counted.items c.in_ok-losses.losses (at + 1) =
    up_next c.in_ok-counted.counted.items c.loop-at.so_far c.lost_in_phase-more.result c.in_ok-losses.losses at
    (c.lost_in_phase-more.ensures ∙ ap (λ z. slice_index_or z (at + 1) no_losses) c.as_slice-in-loop-at.ensures.value) c.in_ok-losses.ensures
    c.loop-at.invariant.so_far in
    let reaches = phase_reaches one c.loop-at.line (c.loop-at.line + 1) c.in_ok-last.last refl c.in_ok-last.ensures in
    lost_fails c.args.setting.now c.args.cuts.now c.args.report.now c.args.orders.now case found of phases c.as_slice-phases.ensures at one
    c.loop-at-test.true read c.loop-at.line c.lost_line-first.result c.in-Some.wrong c.loop-at.invariant.line
    (c.lost_line-first.ensures ∙ c.in_ok-end.ensures ∙ reaches) (c.loop-at.invariant.kept case found of)
    (rw c.in-Some.is at (c.in_ok-fault.ensures (change_in case.phases) found.labels (up_to_phase (at + 1) (entries_of found))
    (subst (λ z. AreOrders z (change_in case.phases) found.labels c.args.orders.now.entries.entries c.args.orders.now.orders.items) setting orders)
    (up (entries_of found) (c.in_ok-counted.ensures case found blocks))))

pub loop-at-preserved : goal.loop-at-preserved
loop-at-preserved c =
    let phases = c.as_slice-phases.result.now in
    let at = c.loop-at.at in
    let one = c.parts-parts.result.now in
    let read = same_read phases at c.index-phases-at.result one c.parts-parts.ensures.value c.index-phases-at.is in
    let up : AreLostUp c.in_ok-counted.counted.items c.in_ok-losses.losses (at + 1) =
    up_next c.in_ok-counted.counted.items c.loop-at.so_far c.lost_in_phase-more.result c.in_ok-losses.losses at
    (c.lost_in_phase-more.ensures ∙ ap (λ z. slice_index_or z (at + 1) no_losses) c.as_slice-in-loop-at.ensures.value) c.in_ok-losses.ensures
    c.loop-at.invariant.so_far in
    record {
      line = reach_more phase_lines 2 c.loop-at.line c.in_ok-end.end at phases one c.loop-at-test.true read c.loop-at.invariant.line
          (c.in_ok-end.ensures ∙ phase_reaches one c.loop-at.line (c.loop-at.line + 1) c.in_ok-last.last refl c.in_ok-last.ensures);
      so_far = up;
      kept = λ case found of.
          lost_more c.args.setting.now c.args.cuts.now c.args.report.now c.args.orders.now case found of phases c.as_slice-phases.ensures at one
          c.loop-at-test.true read (c.loop-at.invariant.kept case found of)
          (rw c.in-None.is at (c.in_ok-fault.ensures (change_in case.phases) found.labels (up_to_phase (at + 1) (entries_of found))
          (subst (λ z. AreOrders z (change_in case.phases) found.labels c.args.orders.now.entries.entries c.args.orders.now.orders.items)
          of.setting_is of.orders_are)
          (up (entries_of found) (c.in_ok-counted.ensures case found of.blocks))));
    }

pub returns : goal.returns
returns c = λ case found setting report blocks keeps orders.
    let of : IsLostCase c.args.setting.now c.args.cuts.now c.args.report.now c.args.orders.now case found =
    record { setting_is = setting; report_is = report; blocks = blocks; keeps = keeps; orders_are = orders } in
    lost_all c.args.setting.now c.args.cuts.now c.args.report.now c.args.orders.now case found of c.as_slice-phases.result.now c.as_slice-phases.ensures
    c.loop-at.at c.loop-at-test.false (c.loop-at.invariant.kept case found of)
