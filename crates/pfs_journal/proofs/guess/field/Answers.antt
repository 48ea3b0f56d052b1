use Rattle.std.proofs.Common.{◌≡◌}
use Rattle.pfs_journal.specs.LineWords.{optional_word}
use Rattle.pfs_journal.proofs.WordReadings.{field_leads, no_some}
use Rattle.pfs_journal.proofs.guess.field.Goals as goal

pub returns : goal.returns
returns c = λ number behind fits stops same.
    let word = c.in_ok-word.ensures (optional_word number) behind (field_leads c.args.bytes.now number behind fits stops same) in
    let is = c.in_ok-number.ensures number fits word.0 in
    let told : c.in_ok-number.number ≡ number = cc is in
    (told, word.1)

pub returns-in_err-word : goal.returns-in_err-word
returns-in_err-word c = λ number behind fits stops same.
    rw c.from_residual.ensures (c.in_err-word.ensures (optional_word number) behind (field_leads c.args.bytes.now number behind fits stops same))

pub returns-in_err-number : goal.returns-in_err-number
returns-in_err-number c = λ number behind fits stops same.
    let word = c.in_ok-word.ensures (optional_word number) behind (field_leads c.args.bytes.now number behind fits stops same) in
    rw c.from_residual-in_err-number.ensures (no_some number (c.in_err-number.ensures number fits word.0))
