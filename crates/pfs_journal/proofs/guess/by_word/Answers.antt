use Rattle.std.proofs.Common.{ap, sym, ◌∙◌}
use Rattle.std.specs.Str.{bytes_eq}
use Rattle.pfs_journal.proofs.Guesses.{lost_told, start_told, plain_told}
use Rattle.pfs_journal.proofs.guess.by_word.Goals as goal

pub returns-then-eq-3 : goal.returns-then-eq-3
returns-then-eq-3 c = λ line good fits word rest.
    let test = ap (bytes_eq c.args.word.now) (sym c.as_slice-else-eq-2.ensures) ∙ (sym c.eq-else-eq-2.ensures ∙ c.if-eq-3.true) in
    lost_told line c.args.word.now c.args.bytes.now c.lost.result word test good fits rest c.lost.ensures

pub returns-then-eq-4 : goal.returns-then-eq-4
returns-then-eq-4 c = λ line good fits word rest.
    let test = ap (bytes_eq c.args.word.now) (sym c.as_slice-else-eq-3.ensures) ∙ (sym c.eq-else-eq-3.ensures ∙ c.if-eq-4.true) in
    start_told line c.args.word.now c.args.bytes.now c.start.result word test fits rest c.start.ensures

pub returns-else-eq-4 : goal.returns-else-eq-4
returns-else-eq-4 c = λ line good fits word rest.
    plain_told line c.args.word.now c.args.bytes.now c.plain.result word (record {
      row = ap (bytes_eq c.args.word.now) (sym c.as_slice.ensures) ∙ (sym c.eq.ensures ∙ c.if-eq.false);
      table = ap (bytes_eq c.args.word.now) (sym c.as_slice-else-eq.ensures) ∙ (sym c.eq-else-eq.ensures ∙ c.if-eq-2.false);
      lost = ap (bytes_eq c.args.word.now) (sym c.as_slice-else-eq-2.ensures) ∙ (sym c.eq-else-eq-2.ensures ∙ c.if-eq-3.false);
      start = ap (bytes_eq c.args.word.now) (sym c.as_slice-else-eq-3.ensures) ∙ (sym c.eq-else-eq-3.ensures ∙ c.if-eq-4.false);
    }) fits rest c.plain.ensures
