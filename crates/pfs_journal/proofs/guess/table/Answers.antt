use Rattle.std.proofs.Common.{[], ap, ◌∙◌}
use Rattle.std.specs.Prelude.{Some}
use Rattle.pfs_journal.specs.declared.line.Line.TheVariants as says
use Rattle.pfs_journal.proofs.WordReadings.{name_leads, table_same}
use Rattle.pfs_journal.proofs.guess.table.Goals as goal

pub returns-in_ok-from_slice-in-Some : goal.returns-in_ok-from_slice-in-Some
returns-in_ok-from_slice-in-Some c = λ name good same.
    let word = c.in-Some.ensures name [] (name_leads name [] c.args.bytes.now good tt (table_same c.args.bytes.now name same)) in
    ap (λ n. Some (says.Table n)) (c.in_ok-from_slice-in-Some.ensures ∙ word.0)

pub returns-in-None : goal.returns-in-None
returns-in-None c = λ name good same. absurd (c.in-None.ensures name [] (name_leads name [] c.args.bytes.now good tt (table_same c.args.bytes.now name same)))
