use Rattle.std.proofs.Common.{◌+◌, ◌*◌, ◌∙◌, get_or, set, sym, ap, arith, length-set, get_or-set_same, get_or-set_other}
use Rattle.std.specs.Slots.{slots_items}
use mathlib.Core.Logic.{dite}
use native.Mathlib.Decide.{ℕ_discrete}
use Rattle.pfs_board.proofs.WordFacts.{elem_get, row_slice}
use Rattle.pfs_board.proofs.words.final_row.Goals as goal

pub loop-i-preserved : goal.loop-i-preserved
loop-i-preserved g c = let low = c.loop-i-test.true in let wide = c.loop-i.invariant.wide in record {
  wide = length-set c.loop-i.content c.loop-i.i c.word.result ∙ c.loop-i.invariant.wide;
  copied = λ j h. dite (ℕ_discrete j c.loop-i.i)
      (λ e. ap (λ k. get_or (set c.loop-i.content c.loop-i.i c.word.result) k 0) e ∙ (get_or-set_same c.loop-i.content c.loop-i.i c.word.result 0 (omega arith) ∙ (sym (elem_get (slots_items c.args.closed.now.words) (17 * c.args.row + c.loop-i.i + 1) c.word.result c.word.ensures)
      ∙ ap (λ k. get_or (slots_items c.args.closed.now.words) (17 * c.args.row + k + 1) 0) (sym e))))
      (λ n. get_or-set_other c.loop-i.content c.loop-i.i j c.word.result 0 n ∙ c.loop-i.invariant.copied j (omega arith));
}

pub returns : goal.returns
returns g c = let v = c.loop-i.invariant in let past = c.loop-i-test.false in let r = c.requires in let wide = r.2 in let inside = r.0 in
    row_slice (slots_items c.args.closed.now.words) c.loop-i.content c.word-2.result c.args.row (omega arith) v.wide (elem_get (slots_items c.args.closed.now.words) (17 * c.args.row) c.word-2.result c.word-2.ensures) (λ j h. v.copied j (omega arith))
