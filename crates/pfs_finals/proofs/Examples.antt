-- COUNT_STAR stands where it is looked for.
use Rattle.std.proofs.Common.{◌≡◌, Some, refl}
use Rattle.std.specs.Prelude.{codes, slice_get}
use Rattle.pfs_catalogue.specs.Columns.{columns_of, number}
use Rattle.pfs_rows.specs.declared.table.SummaryTable.{SummaryTable}
use Rattle.pfs_rows.specs.declared.table.SummaryTable.TheVariants.{ByThread, ByAccount, ByUser, ByHost, Global}
use Rattle.pfs_rows.specs.declared.table.Table.TheVariants.{Summary, DigestSummary}
use Rattle.pfs_rows.specs.declared.table.TableKind.{TableKind}
use Rattle.pfs_rows.specs.declared.table.TableKind.TheVariants.{Waits, Stages, Statements, Transactions}
use Rattle.pfs_finals.specs.Finals.{count_place}

-- in each summary
pub counts_stand : (kind : TableKind) (which : SummaryTable) → slice_get (columns_of (Summary kind which)) (count_place which) ≡ Some (number (codes "COUNT_STAR"))
counts_stand Waits ByThread = refl
counts_stand Waits ByAccount = refl
counts_stand Waits ByUser = refl
counts_stand Waits ByHost = refl
counts_stand Waits Global = refl
counts_stand Stages ByThread = refl
counts_stand Stages ByAccount = refl
counts_stand Stages ByUser = refl
counts_stand Stages ByHost = refl
counts_stand Stages Global = refl
counts_stand Statements ByThread = refl
counts_stand Statements ByAccount = refl
counts_stand Statements ByUser = refl
counts_stand Statements ByHost = refl
counts_stand Statements Global = refl
counts_stand Transactions ByThread = refl
counts_stand Transactions ByAccount = refl
counts_stand Transactions ByUser = refl
counts_stand Transactions ByHost = refl
counts_stand Transactions Global = refl

-- and in the digest table
pub digest_counts_stand : slice_get (columns_of DigestSummary) 3 ≡ Some (number (codes "COUNT_STAR"))
digest_counts_stand = refl
