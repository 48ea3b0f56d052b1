use Rattle.std.proofs.Common.{◌≡◌, ◌∙◌, ◌++◌, ◌+◌, ◌<◌, ◌∷◌, ℕ, List, ap, subst, sym, length, drop, arith}
use Rattle.pfs_board.specs.declared.answers.Opening.{Opening}
use Rattle.pfs_board.specs.OpeningWords.{IsOpening, lock_of, row_of, words_of}
use Rattle.pfs_board.proofs.NextWords.{first_words, first_opening, lock_else, lock_then, words_on, opening_on}
use Rattle.pfs_board.proofs.words.open_words.Goals as goal
use Rattle.pfs_board.proofs.words.open_words.Goals.{then-row, else-row}

pub loop-at-init : goal.loop-at-init
loop-at-init g c =
    let rows : List Opening = g.O.Openings.rows c.args.openings.now in
    let pushed = c.in_ok-push_row.ensures in
    let row : row_of rows 0 ≡ c.row.result = sym c.row.ensures in
    let words : c.push_row.new.words.items ≡ 2 ∷ (row_of rows 0).content =
    pushed.words ∙ (ap (λ (z : List ℕ). z ++ 2 ∷ c.row.result.content) c.in_ok-words.ensures.items ∙ ap (λ (o : Opening). 2 ∷ o.content) (sym row)) in
    record {
      words = ap (λ (z : List ℕ). z ++ words_of (drop 1 rows)) words ∙ first_words rows c.requires;
      form = subst (λ (z : List ℕ). IsOpening z 1) (sym words) (first_opening (row_of rows 0).content (ap (λ (o : Opening). length o.content) row ∙ pushed.told));
      low = omega (arith, c.requires, c.count-count.ensures);
    }

pub loop-at-preserved : goal.loop-at-preserved
loop-at-preserved g c =
    let rows : List Opening = g.O.Openings.rows c.args.openings.now in
    let n : ℕ = c.loop-at.at in
    let pushed = c.in_ok-push_row-2.ensures in
    let below : n < length rows = omega (arith, c.count-count.ensures, c.loop-at-test.true) in
    let o : Opening = row_of rows n in
    let row : o ≡ c.row-row.result = sym c.row-row.ensures in
    let lock : c.if-row.lock ≡ lock_of c.row-row.result = elim c.if-row.branch [
      | then-row w ↦ w.lock-is ∙ sym (lock_then c.row-row.result w.if-row.true)
      | else-row w ↦ w.lock-is ∙ sym (lock_else c.row-row.result w.if-row.false)
    ] in
    let words : c.push_row-in-loop-at.new.words.items ≡ c.loop-at.words.items ++ lock_of o ∷ o.content =
    pushed.words ∙ (ap (λ (k : ℕ). c.loop-at.words.items ++ k ∷ c.row-row.result.content) lock
    ∙ ap (λ (z : Opening). c.loop-at.words.items ++ lock_of z ∷ z.content) (sym row)) in
    record {
      words = ap (λ (z : List ℕ). z ++ words_of (drop (n + 1) rows)) words ∙ words_on rows c.loop-at.words.items n below c.loop-at.invariant.words;
      form = subst (λ (z : List ℕ). IsOpening z (n + 1)) (sym words) (opening_on o c.loop-at.words.items n c.loop-at.invariant.form (ap (λ (z : Opening). length z.content) row ∙ pushed.told));
      low = omega (arith, c.loop-at-test.true);
    }
