mod JournalLines
mod WrongLines
