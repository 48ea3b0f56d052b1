use Rattle.std.proofs.Common.{◌≡◌, List, Some, true, false, ap, sym, subst, ◌∙◌, rules}
use Rattle.std.specs.List.{flat_map}
use Rattle.pfs_text.specs.declared.values.RowValue.{RowValue}
use Rattle.pfs_journal.specs.declared.line.Line.TheVariants as says
use Rattle.pfs_journal.specs.Spelling.{value_text}
use Rattle.pfs_journal.specs.LineWords.{FitsValue}
use Rattle.pfs_journal.proofs.ItemReadings.{ItemsRead, items_none, items_more, items_end, items_refused}
use Rattle.pfs_journal.proofs.PartReadings.{not_empty, is_empty}
use Rattle.pfs_journal.proofs.ValueReadings.{value_some}
use Rattle.pfs_journal.proofs.LineReadings.{values_behind}
use Rattle.pfs_journal.proofs.guess.row.Goals as goal

pub loop-rest-init : goal.loop-rest-init
loop-rest-init c = λ values fits same.
    subst (λ (got : List RowValue). ItemsRead value_text FitsValue values got c.args.bytes.now) (sym c.new-values.ensures.items) (items_none value_text FitsValue values c.args.bytes.now fits same)

pub loop-rest-preserved : goal.loop-rest-preserved
loop-rest-preserved c = λ values fits same.
    let some : c.is_empty.result ≡ false = search rules in
    subst (λ (got : List RowValue). ItemsRead value_text FitsValue values got c.in-Some.behind.now) (sym c.in_ok-push-in-Some.ensures.items)
    (items_more value_text FitsValue values c.loop-rest.values.items c.loop-rest.rest.now c.in-Some.behind.now c.in-Some.value (c.loop-rest.invariant values fits same) (not_empty c.loop-rest.rest.now (sym c.is_empty.ensures ∙ some))
    (λ x more fit is. let told = rw c.in-Some.is at (c.in_ok-value.ensures.said x (flat_map value_text more) fit (values_behind more) is) in (told.0, told.1)))

pub returns-in-None : goal.returns-in-None
returns-in-None c = λ values fits same.
    let some : c.is_empty.result ≡ false = search rules in
    absurd (items_refused value_text FitsValue values c.loop-rest.values.items c.loop-rest.rest.now (c.loop-rest.invariant values fits same) (not_empty c.loop-rest.rest.now (sym c.is_empty.ensures ∙ some))
    (λ x more fit is. rw c.in-None.is at (c.in_ok-value.ensures.said x (flat_map value_text more) fit (values_behind more) is)))

pub returns : goal.returns
returns c = λ values fits same.
    let none : c.is_empty.result ≡ true = search rules in
    ap (λ (v : List RowValue). Some (says.Row v)) (c.new.ensures ∙ items_end value_text FitsValue values c.loop-rest.values.items c.loop-rest.rest.now value_some (c.loop-rest.invariant values fits same) (is_empty c.loop-rest.rest.now (sym c.is_empty.ensures ∙ none)))
