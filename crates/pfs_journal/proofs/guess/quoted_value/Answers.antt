use Rattle.std.proofs.Common.{ap}
use Rattle.pfs_text.specs.declared.values.RowValue.TheVariants as value
use Rattle.pfs_journal.proofs.ValueReadings.{inside_told, behind_told}
use Rattle.pfs_journal.proofs.guess.quoted_value.Goals as goal

pub returns-clause-said : goal.returns-clause-said
returns-clause-said c = λ text behind stops same.
    (ap value.Text (c.in_ok-text.ensures text (inside_told c.args.bytes.now text behind c.args.size c.requires stops same)), behind_told c.args.bytes.now text behind c.args.size c.requires stops same)
