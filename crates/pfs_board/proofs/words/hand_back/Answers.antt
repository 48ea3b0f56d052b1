use Rattle.std.proofs.Common.{◌∙◌, ℕ, ◌+◌, ◌*◌, ◌++◌, ◌∷◌, [], List, take, sym, ap}
use Rattle.std.specs.Slots.{slots_items}
use Rattle.pfs_board.specs.SeatViews.{final_words}
use Rattle.pfs_board.proofs.WordFacts.{final_append, one_final, take_row}
use Rattle.pfs_board.proofs.words.hand_back.Goals as goal

pub loop-row-preserved : goal.loop-row-preserved
loop-row-preserved g c = let v = c.loop-row.invariant in let p = c.push_reserved.ensures in let ws : List ℕ = slots_items c.args.closed.now.words in record {
  words = ap final_words p.items ∙ (final_append c.loop-row.rows.items (c.final_row.result ∷ []) ∙ (ap (λ z. z ++ final_words (c.final_row.result ∷ [])) v.words
      ∙ (ap (λ z. take (17 * c.loop-row.row) ws ++ z) (one_final c.final_row.result ∙ sym c.final_row.ensures) ∙ sym (take_row ws c.loop-row.row))));
  len = p.len ∙ ap (λ n. n + 1) v.len;
  room = p.capacity ∙ v.room;
}
