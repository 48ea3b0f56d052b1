use Rattle.std.proofs.Common.{◌+◌, ◌-◌, ◌/◌, ◌<◌, ℕ, List, length, ap, sym, ◌∙◌, arith}
use Rattle.std.specs.declared.cmp.Ordering.TheVariants.{Less, Greater}
use Rattle.pfs_digest.specs.Keywords.{any_case_cmp}
use Rattle.pfs_digest.proofs.WordSearch.{at_any, more_less, more_greater, none_less, none_greater, searched_at, searched_none}
use Rattle.pfs_digest.proofs.keywords.find_word.Goals as goal

pub loop-low-init : goal.loop-low-init
loop-low-init c = record {
  within = omega arith;
  less = none_less (λ keyword. keyword.now) c.args.keywords.now c.args.word.now;
  greater = none_greater (λ keyword. keyword.now) c.args.keywords.now c.args.word.now;
}

-- the middle one is less, and so are those before it
pub loop-low-preserved-in-Less : goal.loop-low-preserved-in-Less
loop-low-preserved-in-Less c =
    let middle = c.loop-low.low + (c.loop-low.high - c.loop-low.low) / 2 in
    let within : middle < length c.args.keywords.now = omega (arith, c.loop-low.invariant.within) in
    let told = ap (λ (x : List ℕ). any_case_cmp x c.args.word.now) (sym c.as_bytes.ensures.value) ∙ sym c.order.ensures ∙ c.in-Less.is in
    record {
      within = c.loop-low.invariant.within;
      less = more_less (λ keyword. keyword.now) c.args.keywords.now c.args.word.now middle c.requires within (at_any (λ keyword. keyword.now) c.args.keywords.now c.args.word.now middle _ Less within told);
      greater = c.loop-low.invariant.greater;
    }

-- the middle one is greater, and so are those behind it
pub loop-low-preserved : goal.loop-low-preserved
loop-low-preserved c =
    let middle = c.loop-low.low + (c.loop-low.high - c.loop-low.low) / 2 in
    let within : middle < length c.args.keywords.now = omega (arith, c.loop-low.invariant.within) in
    let told = ap (λ (x : List ℕ). any_case_cmp x c.args.word.now) (sym c.as_bytes.ensures.value) ∙ sym c.order.ensures ∙ c.in-Greater.is in
    record {
      within = omega (arith, c.loop-low.invariant.within);
      less = c.loop-low.invariant.less;
      greater = more_greater (λ keyword. keyword.now) c.args.keywords.now c.args.word.now middle c.requires (at_any (λ keyword. keyword.now) c.args.keywords.now c.args.word.now middle _ Greater within told);
    }

pub returns-in-Equal : goal.returns-in-Equal
returns-in-Equal c =
    let middle = c.loop-low.low + (c.loop-low.high - c.loop-low.low) / 2 in
    let within : middle < length c.args.keywords.now = omega (arith, c.loop-low.invariant.within) in
    let told = ap (λ (x : List ℕ). any_case_cmp x c.args.word.now) (sym c.as_bytes.ensures.value) ∙ sym c.order.ensures ∙ c.in-Equal.is in
    sym (searched_at (λ keyword. keyword.now) c.args.keywords.now c.args.word.now middle _ c.requires within told)

pub returns : goal.returns
returns c = sym (searched_none (λ keyword. keyword.now) c.args.keywords.now c.args.word.now c.loop-low.low c.loop-low.high c.loop-low-test.false c.loop-low.invariant.less c.loop-low.invariant.greater)
