use Rattle.std.proofs.Common.{sym, ◌∙◌, ap, subst, arith}
use Rattle.std.proofs.lemmas.Option.{slice_get-get_or}
use Rattle.pfs_model.specs.Chains.{Each, action_change}
use Rattle.pfs_check_versions.specs.ActionLabels.{IsAction}
use Rattle.pfs_check_versions.specs.PlacedChanges.{changes_of}
use Rattle.pfs_check_versions.specs.PrintedEntries.{printed_in}
use Rattle.pfs_check_versions.proofs.ActionRules.{acts_kept, acts_linked, acts_wrong, rows_none}
use Rattle.pfs_check_versions.proofs.ChainRules.{in_order}
use Rattle.pfs_check_versions.proofs.PrintedPlaces.{report_printed}
use Rattle.pfs_check_versions.proofs.judging.judge_actions.Goals as goal

pub link-requires : goal.link-requires
link-requires c =
    in_order action_change c.as_slice-actions.result.now c.args.report.now (c.as_slice-actions.ensures.value ∙ c.in_ok-gathered.ensures)

pub returns-then-place-actions : goal.returns-then-place-actions
returns-then-place-actions c = λ case found same shape.
    acts_wrong case found c.as_slice-actions.result.now c.in_ok-links.links c.in_ok-risen.risen c.min-place.result _
    (c.as_slice-actions.ensures.value ∙ c.in_ok-gathered.ensures ∙ ap (λ z. changes_of action_change (printed_in z)) (sym same))
    (report_printed case.phases case.report found.blocks shape) c.in_ok-links.ensures c.in_ok-risen.ensures c.min-place.ensures c.if-place-actions.true
    (slice_get-get_or c.as_slice-actions.result.now c.min-place.result _ c.if-place-actions.true)

pub label_actions-requires-clause-linked : goal.label_actions-requires-clause-linked
label_actions-requires-clause-linked c =
    acts_linked c.as_slice-actions.result.now c.in_ok-links.links c.in_ok-risen.risen c.min-place.result c.in_ok-links.ensures c.min-place.ensures c.if-place-actions.false

pub label_actions-requires-clause-rows : goal.label_actions-requires-clause-rows
label_actions-requires-clause-rows c =
    subst (Each IsAction) (sym (c.as_slice-actions.ensures.value ∙ c.in_ok-gathered.ensures)) (rows_none (printed_in c.args.report.now))

pub returns : goal.returns
returns c = λ case found same shape.
    acts_kept c.numbers.ensures.chained c.numbers.ensures.rising case found c.as_slice-actions.result.now c.in_ok-links.links c.in_ok-risen.risen c.min-place.result
    c.in_ok-labels.labels.items
    (c.as_slice-actions.ensures.value ∙ c.in_ok-gathered.ensures ∙ ap (λ z. changes_of action_change (printed_in z)) (sym same))
    (report_printed case.phases case.report found.blocks shape) c.in_ok-links.ensures c.in_ok-risen.ensures c.min-place.ensures c.if-place-actions.false
    c.in_ok-labels.ensures
