mod Examples
mod ColumnNames
pub mod TableLookups
