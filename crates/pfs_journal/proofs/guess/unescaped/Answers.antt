use Rattle.std.proofs.Common.{◌≡◌, ℕ, List, true, false, sym, subst, ◌∙◌, rules}
use Rattle.std.specs.List.{flat_map}
use Rattle.pfs_text.specs.QuotedTexts.{doubled}
use Rattle.pfs_journal.proofs.ItemReadings.{ItemsRead, items_none, items_more, items_end}
use Rattle.pfs_journal.proofs.PartReadings.{not_empty, is_empty}
use Rattle.pfs_journal.proofs.ValueReadings.{no_fit, doubled_some}
use Rattle.pfs_journal.proofs.guess.unescaped.Goals as goal

pub loop-left-init : goal.loop-left-init
loop-left-init c = λ text same.
    subst (λ (got : List ℕ). ItemsRead doubled (λ (b : ℕ). Unit {0}) text got c.args.bytes.now) (sym c.new-text.ensures.items) (items_none doubled (λ (b : ℕ). Unit {0}) text c.args.bytes.now (no_fit text) same)

pub loop-left-preserved : goal.loop-left-preserved
loop-left-preserved c = λ text same.
    let some : c.is_empty.result ≡ false = search rules in
    subst (λ (got : List ℕ). ItemsRead doubled (λ (b : ℕ). Unit {0}) text got c.front_byte-byte.result.1.now) (sym c.in_ok-push.ensures.items)
    (items_more doubled (λ (b : ℕ). Unit {0}) text c.loop-left.text.items c.loop-left.left.now c.front_byte-byte.result.1.now c.front_byte-byte.result.0 (c.loop-left.invariant text same) (not_empty c.loop-left.left.now (sym c.is_empty.ensures ∙ some))
    (λ x more fit is. c.front_byte-byte.ensures.front x (flat_map doubled more) is))

pub returns : goal.returns
returns c = λ text same.
    let none : c.is_empty.result ≡ true = search rules in
    c.new.ensures ∙ items_end doubled (λ (b : ℕ). Unit {0}) text c.loop-left.text.items c.loop-left.left.now doubled_some (c.loop-left.invariant text same) (is_empty c.loop-left.left.now (sym c.is_empty.ensures ∙ none))
