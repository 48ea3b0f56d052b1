use Rattle.std.proofs.Common.{List, ℕ, MatchOption, subst}
use Rattle.pfs_rows.specs.declared.table.Table.{Table}
use Rattle.pfs_catalogue.specs.LetterCases.{IsTableName}
use Rattle.pfs_exec.proofs.planning.table_of.Goals as goal

pub returns : goal.returns
returns c = subst (λ (name : List ℕ). MatchOption c.find_table.result ((table : Table) → ¬ IsTableName table name) (λ table. IsTableName table name)) c.table_named.ensures c.find_table.ensures
