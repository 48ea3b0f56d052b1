use Rattle.std.proofs.Common.{ℕ, ◌≡◌, take, subst, sym, ◌∙◌, arith, refl, rules}
use Rattle.std.specs.List.{flat_map}
use Rattle.pfs_journal.specs.LineWords.{FitsField}
use Rattle.pfs_journal.specs.Spelling.{optional_text}
use Rattle.pfs_journal.proofs.ItemReadings.{ItemsRead, items_none, items_end, items_refused}
use Rattle.pfs_journal.proofs.PartReadings.{not_empty, is_empty}
use Rattle.pfs_journal.proofs.WordReadings.{fields_more, fields_behind, field_some, five_told}
use Rattle.pfs_journal.proofs.guess.fields_of.Goals as goal

pub loop-place-init : goal.loop-place-init
loop-place-init c = (refl, λ ns fits few same. items_none optional_text FitsField ns c.args.bytes.now fits same)

pub loop-place-preserved : goal.loop-place-preserved
loop-place-preserved c =
    let inside = c.loop-place-test.true in
    let size = c.loop-place.invariant.0 in (
      search rules,
      λ ns fits few same.
          fields_more ns c.loop-place.numbers c.loop-place.place c.loop-place.rest.now c.in-Some.behind.now c.in-Some.number (c.loop-place.invariant.1 ns fits few same) (not_empty c.loop-place.rest.now (sym c.is_empty.ensures ∙ c.if-is_empty.false)) (omega (arith, inside, size)) c.in-Some.ensures,
    )

pub returns-then-is_empty-clause-said : goal.returns-then-is_empty-clause-said
returns-then-is_empty-clause-said c = λ ns fits few same.
    items_end optional_text FitsField ns (take c.loop-place.place c.loop-place.numbers) c.loop-place.rest.now field_some (c.loop-place.invariant.1 ns fits few same) (is_empty c.loop-place.rest.now (sym c.is_empty.ensures ∙ c.if-is_empty.true))

pub returns-in-None-clause-said : goal.returns-in-None-clause-said
returns-in-None-clause-said c = λ ns fits few same.
    items_refused optional_text FitsField ns (take c.loop-place.place c.loop-place.numbers) c.loop-place.rest.now (c.loop-place.invariant.1 ns fits few same) (not_empty c.loop-place.rest.now (sym c.is_empty.ensures ∙ c.if-is_empty.false))
    (λ x more fit is. c.in-None.ensures x (flat_map optional_text more) fit (fields_behind more) is)

pub returns-clause-said : goal.returns-clause-said
returns-clause-said c = λ ns fits few same.
    let five : c.loop-place.place ≡ 5 = omega arith in
    five_told c.all_five.result _ ns c.loop-place.numbers c.loop-place.rest.now (subst (λ (k : ℕ). ItemsRead optional_text FitsField ns (take k c.loop-place.numbers) c.loop-place.rest.now) five (c.loop-place.invariant.1 ns fits few same)) c.loop-place.invariant.0 few c.all_five.ensures.whole
