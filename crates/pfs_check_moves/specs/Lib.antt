pub mod AskedMoves
pub mod DueMoves
pub mod EntryDeeds
pub mod FoundTakes
pub mod MovesRules
pub mod PrintedMoves
