use Rattle.std.proofs.Common.{◌+◌, ◌∙◌, ap, arith, drop, subst, sym, take, Some}
use Rattle.pfs_check_line_numbers.proofs.EntryNumbers.{same_read}
use Rattle.pfs_journal.specs.declared.report.PhaseParts.{PhaseParts}
use Rattle.pfs_journal.specs.declared.report.ReportParts.{ReportParts}
use Rattle.pfs_readsets.proofs.EqualReadings.{rows_are_places}
use Rattle.pfs_runs.specs.Runs.{AreFinal}
use Rattle.pfs_check_faults.specs.declared.rules.Rule.TheVariants as rules
use Rattle.pfs_check_finals.specs.EndTables.{AreDue, AreTablesAsked, shown_by}
use Rattle.pfs_check_finals.proofs.EndFaults.{around, final_all, tables_kept, tables_wrong}
use Rattle.pfs_check_finals.proofs.tables.judge_tables.Goals as goal

pub returns-in-Some : goal.returns-in-Some
returns-in-Some g c = λ case found setting report keeps ends.
    let phases = c.as_slice-phases.result.now in
    let at = c.loop-phase.phase-index in
    let one = c.parts-parts.result.now in
    tables_wrong (rows_are_places c.rows.ensures.found c.rows.ensures.back) case found (take at phases) (drop (at + 1) phases) one c.loop-phase.line
    c.in_ok-last.last c.in-Some.wrong keeps
    (ap (λ (z : ReportParts). z.phases) report ∙ sym c.as_slice-phases.ensures
    ∙ around phases at one c.loop-phase-test.true (same_read phases at c.phase-item.result one c.parts-parts.ensures.value c.phase-item.is))
    c.loop-phase.invariant.line c.in_ok-last.ensures
    (λ content are.
    subst (λ z. AreFinal (λ (one : PhaseParts). AreDue z (shown_by case found content one.number) one.tables) (take at phases)) (sym setting)
    (c.loop-phase.invariant.kept (shown_by case found content) (ends content are)))
    (λ content are.
    subst (λ z. AreTablesAsked z (shown_by case found content one.number) c.in_ok-last.last one.tables (Some c.in-Some.wrong)) (sym setting)
    (rw c.in-Some.is at (c.in_ok-fault.ensures (shown_by case found content) (ends content are))))

pub returns : goal.returns
returns g c = λ case found setting report keeps ends.
    let phases = c.as_slice-phases.result.now in
    let own = (keeps rules.Moves (omega arith)).contents in
    tables_kept case found keeps
    (subst (AreFinal (λ (one : PhaseParts). AreDue case.setting (shown_by case found found.content one.number) one.tables))
    (c.as_slice-phases.ensures ∙ ap (λ (z : ReportParts). z.phases) (sym report))
    (final_all (λ (one : PhaseParts). AreDue case.setting (shown_by case found found.content one.number) one.tables) phases c.loop-phase.phase-index
    c.loop-phase-test.false
    (subst (λ z. AreFinal (λ (one : PhaseParts). AreDue z (shown_by case found found.content one.number) one.tables) (take c.loop-phase.phase-index phases))
    (sym setting) (c.loop-phase.invariant.kept (shown_by case found found.content) (ends found.content own)))))
