mod CommandWords
mod Outcomes
mod WrittenTables
