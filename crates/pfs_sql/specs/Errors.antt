-- The numbers of the errors.
use Rattle.std.specs.Prelude.{ℕ}
use Rattle.pfs_sql.specs.declared.faults.SqlError.{SqlError}
use Rattle.pfs_sql.specs.declared.faults.SqlError.TheVariants.{Parse, NoSuchTable, CommandDenied, UnknownColumn, WrongUsage, DuplicateEntry, TableFull}

-- MySQL's number
abbrev pub number_of : SqlError → ℕ
number_of Parse = 1064
number_of NoSuchTable = 1146
number_of CommandDenied = 1142
number_of UnknownColumn = 1054
number_of WrongUsage = 1683
number_of DuplicateEntry = 1062
number_of TableFull = 1114
