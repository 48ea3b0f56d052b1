mod FirstRows
mod OpenedTables
