pub mod StartLosses
pub mod JournalLosses
pub mod DigestLosses
pub mod SpellCalls
mod PhaseEnds
mod EndedPhases
pub mod NextPhase
mod StoreReadings
mod EndExamples
mod AnswerCounts
mod HeldRows
mod HashTexts
mod TableRows
mod NameTexts
mod RunAnswers
mod SqlTexts
mod SelectRows
mod FinalTables
