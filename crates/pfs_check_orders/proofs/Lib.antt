mod InfoFacts
mod ListRanges
mod OrderFacts
mod ShownFacts
mod WrittenRows
