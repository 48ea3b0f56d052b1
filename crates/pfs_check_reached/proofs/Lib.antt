mod MadeOnce
mod ShelfFacts
mod WalkFacts
