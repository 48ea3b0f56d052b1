use Rattle.std.proofs.Common.{[], Some}
use Rattle.std.specs.Prelude.{decimal}
use Rattle.pfs_journal.proofs.WordReadings.{field_leads, read_told}
use Rattle.pfs_journal.proofs.guess.last_number.Goals as goal

pub returns-in_err-word : goal.returns-in_err-word
returns-in_err-word c = λ number fits same. absurd (c.in_err-word.ensures (decimal number) [] (field_leads c.args.bytes.now (Some number) [] fits tt same))

pub returns : goal.returns
returns c = λ number fits same.
    let word = c.in_ok-word.ensures (decimal number) [] (field_leads c.args.bytes.now (Some number) [] fits tt same) in
    read_told c.in_ok-word.word.now number c.read_u64.result c.read_u64.ensures fits word.0
