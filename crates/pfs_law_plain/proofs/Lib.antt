mod NextNotes
mod StoreNotes
pub mod InnerEntries
pub mod StepNotes
mod TicketDraws
mod StepTickets
mod LineNotes
mod Weights
mod QuietSessions
mod LineAgreement
mod TurnNotes
mod BlockNotes
mod PrintedFlags
pub mod PlainJournals
pub mod NextSpell
pub mod QueryReadings
mod HeldTables
pub mod ShownAnswers
mod AnswerExamples
mod BracketCounts
mod ClosedEvents
mod LineFacts
pub mod OpenKinds
mod SessionFacts
mod FactExamples
pub mod InnerCalls
pub mod ActionCounts
pub mod EnteredLabels
mod NumberedActions
pub mod LabelWork
mod ActionOrders
pub mod ClassCount
pub mod TruncationRows
pub mod CellKinds
pub mod SessionPlaces
mod VersionContents
pub mod ConnectSlots
mod PrintedLabels
mod VacantRows
mod Causes
pub mod ReadCalls
mod TicketPlaces
mod Tickets
mod RunRules
pub mod PhaseFronts
pub mod PlainContents
mod PrintedCounts
pub mod PhaseStore
pub mod NextFold
mod UnwrittenPlaces
mod RuleExamples
