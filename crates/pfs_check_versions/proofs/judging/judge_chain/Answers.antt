use Rattle.std.proofs.Common.{sym, ◌∙◌, ap, arith}
use Rattle.std.proofs.lemmas.Option.{slice_get-get_or}
use Rattle.pfs_model.specs.Chains.{row_change}
use Rattle.pfs_check_versions.specs.PlacedChanges.{changes_of}
use Rattle.pfs_check_versions.specs.PrintedEntries.{printed_in}
use Rattle.pfs_check_versions.proofs.ChainRules.{chain_kept, chain_wrong, in_order}
use Rattle.pfs_check_versions.proofs.PrintedPlaces.{report_printed}
use Rattle.pfs_check_versions.proofs.judging.judge_chain.Goals as goal

pub link-requires : goal.link-requires
link-requires c =
    in_order row_change c.as_slice-changes.result.now c.args.report.now (c.as_slice-changes.ensures.value ∙ c.in_ok-gathered.ensures)

pub returns-then-links-changes : goal.returns-then-links-changes
returns-then-links-changes c = λ case found same shape.
    chain_wrong case found c.as_slice-changes.result.now c.in_ok-links.links _
    (c.as_slice-changes.ensures.value ∙ c.in_ok-gathered.ensures ∙ ap (λ z. changes_of row_change (printed_in z)) (sym same))
    (report_printed case.phases case.report found.blocks shape) c.in_ok-links.ensures c.if-links-changes.true
    (slice_get-get_or c.as_slice-changes.result.now c.in_ok-links.links.place _ c.if-links-changes.true)

pub returns : goal.returns
returns c = λ case found same shape.
    chain_kept c.numbers.ensures.chained case found c.as_slice-changes.result.now c.in_ok-links.links
    (c.as_slice-changes.ensures.value ∙ c.in_ok-gathered.ensures ∙ ap (λ z. changes_of row_change (printed_in z)) (sym same))
    (report_printed case.phases case.report found.blocks shape) c.in_ok-links.ensures c.if-links-changes.false
