-- The table that a new row is of.
use Rattle.pfs_rows.specs.declared.table.Table.{Table}
use Rattle.pfs_rows.specs.declared.table.Table.TheVariants.{SetupActors, SetupObjects}
use Rattle.pfs_exec.specs.declared.changes.NewRow.{NewRow}
use Rattle.pfs_exec.specs.declared.changes.NewRow.TheVariants.{Actor, Object}

abbrev pub table_of : NewRow → Table
table_of (Actor row) = SetupActors
table_of (Object row) = SetupObjects
