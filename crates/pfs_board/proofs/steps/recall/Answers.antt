use Rattle.std.proofs.Common.{◌∙◌, get_or, length-set, arith, sym, refl}
use Rattle.std.proofs.lemmas.List.{ext_get_or}
use Rattle.pfs_board.specs.Knowledge.{corner, found_in}
use Rattle.pfs_board.proofs.CallSteps.{word_in, recall_call, recall_next}
use Rattle.pfs_board.proofs.steps.recall.Goals as goal

pub load-requires : goal.load-requires
load-requires g c = let at = c.requires.at in let low = c.loop-i-test.true in (
  c.loop-i.invariant.table ∙ at.same,
  word_in _ _ _ _ c.args.row c.loop-i.i at low,
  recall_call g.V.Kept.stands_for _ _ _ _ _ _ _ c.args.row c.loop-i.i c.loop-i.invariant.me at c.requires.holds low,
)

pub loop-i-preserved : goal.loop-i-preserved
loop-i-preserved g c = let low = c.loop-i-test.true in let v = c.loop-i.invariant in let e = c.load.ensures.2 c.args.row c.loop-i.i refl low in let me = v.me in record {
  table = c.load.ensures.0 ∙ v.table;
  me = e.0 ∙ v.me;
  wide = length-set c.loop-i.content c.loop-i.i c.load.result ∙ v.wide;
  copied = recall_next g.V.Kept.stands_for c.args.top.now.key.items c.loop-i.content (found_in (corner c.args.seat.now.me.0 c.args.row).stage) c.loop-i.i c.load.result v.wide low (e.1 ∙ (λ i. get_or (found_in (corner (me i).0 c.args.row).stage) c.loop-i.i 0)) v.copied;
}

pub returns-clause-content : goal.returns-clause-content
returns-clause-content g c = ext_get_or 0 _ _ (c.loop-i.invariant.wide ∙ sym c.requires.wide) (λ j h. c.loop-i.invariant.copied j (omega arith))
