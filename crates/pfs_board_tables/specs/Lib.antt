pub mod EndTables
