use Rattle.std.proofs.Common.{◌≡◌, Some, None, ap, sym, ◌∙◌}
use Rattle.std.specs.Str.{bytes_eq}
use Rattle.pfs_text.specs.declared.values.RowValue.TheVariants as value
use Rattle.pfs_journal.proofs.WordReadings.{read_told, no_some}
use Rattle.pfs_journal.proofs.ValueReadings.{number_word, null_no_number}
use Rattle.pfs_journal.proofs.guess.plain_value.Goals as goal

pub returns-then-eq-clause-number : goal.returns-then-eq-clause-number
returns-then-eq-clause-number c = λ n behind fits stops same.
    let word = c.first_word.ensures.word ∙ (number_word c.args.bytes.now behind n fits stops same).0 in
    absurd (null_no_number c.first_word.result.0.now n fits (ap (bytes_eq c.first_word.result.0.now) (sym c.as_slice.ensures) ∙ (sym c.eq.ensures ∙ c.if-eq.true)) word)

pub returns-in_err-number-clause-number : goal.returns-in_err-number-clause-number
returns-in_err-number-clause-number c = λ n behind fits stops same.
    let word = c.first_word.ensures.word ∙ (number_word c.args.bytes.now behind n fits stops same).0 in
    absurd (no_some n (read_told c.first_word.result.0.now n None c.in_err-number.ensures fits word))

pub returns-clause-number : goal.returns-clause-number
returns-clause-number c = λ n behind fits stops same.
    let told = number_word c.args.bytes.now behind n fits stops same in
    let some = read_told c.first_word.result.0.now n (Some c.in_ok-number.number) c.in_ok-number.ensures fits (c.first_word.ensures.word ∙ told.0) in
    let is : c.in_ok-number.number ≡ n = cc some in
    (ap value.Number is, c.first_word.ensures.behind ∙ told.1)
