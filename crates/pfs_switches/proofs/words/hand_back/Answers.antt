use Rattle.std.proofs.Common.{◌∙◌, ◌+◌, ◌++◌, ◌∷◌, [], sym, ap}
use Rattle.std.specs.Slots.{slots_items}
use Rattle.pfs_switches.specs.OpeningWords.{parts}
use Rattle.pfs_switches.proofs.WordFacts.{take_more}
use Rattle.pfs_switches.proofs.words.hand_back.Goals as goal

pub loop-i-preserved : goal.loop-i-preserved
loop-i-preserved g c = let v = c.loop-i.invariant in let p = c.push_reserved.ensures in record {
  rows = p.items ∙ (ap (λ z. z ++ parts c.word-word.result ∷ []) v.rows ∙ sym (take_more (slots_items c.args.closed.now.words) c.loop-i.i c.word-word.result c.word-word.ensures));
  len = p.len ∙ ap (λ n. n + 1) v.len;
  room = p.capacity ∙ v.room;
}
