use Rattle.pfs_journal.proofs.PartReadings.{table_read}
use Rattle.pfs_journal.specs.ReportPlaces.{Named}
use Rattle.pfs_journal.proofs.ReaderStops.{passed}
use Rattle.pfs_journal.proofs.parts.read_table.Goals as goal

pub returns-clause-read : goal.returns-clause-read
returns-clause-read c =
    table_read c.args.name c.in_ok-rows.rows _ c.is_empty.result _ _ _ c.in_ok-first.first c.in_ok-rows.line c.requires c.in_ok-first.ensures.taken c.in_ok-rows.ensures.read c.as_slice.ensures c.is_empty.ensures c.if-is_empty.false

pub returns-in_err-first-clause-stops : goal.returns-in_err-first-clause-stops
returns-in_err-first-clause-stops c = passed c.from_residual.result c.in_err-first.field-0.0 _ _ c.from_residual.ensures (λ at told. told Named (λ same. absurd (cc same))) c.in_err-first.ensures.stops
