mod EndTables
