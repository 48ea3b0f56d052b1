mod Examples
mod CounterNames
mod JoinedTables
