use Rattle.pfs_tables.proofs.Fits.{plain_kinds, plain_count, summary_kinds, summary_count, digest_kinds, digest_count}
use Rattle.pfs_tables.proofs.listing.listed.Goals as goal

pub returns-in-Summary-clause-count : goal.returns-in-Summary-clause-count
returns-in-Summary-clause-count c =
    summary_count c.args.setting.now c.args.table c.args.readings.now c.summary_rows.result c.in-Summary.kind c.in-Summary.which c.in-Summary.is c.summary_rows.ensures

pub returns-in-DigestSummary-clause-count : goal.returns-in-DigestSummary-clause-count
returns-in-DigestSummary-clause-count c = digest_count c.args.setting.now c.args.table c.args.readings.now c.digest_rows.result c.in-DigestSummary.is c.digest_rows.ensures

pub returns-in-SetupActors-clause-count : goal.returns-in-SetupActors-clause-count
returns-in-SetupActors-clause-count c = plain_count c.args.setting.now c.args.table c.args.readings.now c.plain_rows.result c.plain_rows.ensures

pub returns-in-Summary-clause-kinds : goal.returns-in-Summary-clause-kinds
returns-in-Summary-clause-kinds c =
    summary_kinds c.args.setting.now c.args.table c.args.readings.now c.summary_rows.result c.in-Summary.kind c.in-Summary.which c.in-Summary.is c.summary_rows.ensures

pub returns-in-DigestSummary-clause-kinds : goal.returns-in-DigestSummary-clause-kinds
returns-in-DigestSummary-clause-kinds c = digest_kinds c.args.setting.now c.args.table c.args.readings.now c.digest_rows.result c.in-DigestSummary.is c.digest_rows.ensures

pub returns-in-SetupActors-clause-kinds : goal.returns-in-SetupActors-clause-kinds
returns-in-SetupActors-clause-kinds c = plain_kinds c.args.setting.now c.args.table c.args.readings.now c.plain_rows.result c.plain_rows.ensures
