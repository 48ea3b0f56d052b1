mod DoneWork
mod ActionPieces
mod WorkContents
mod QuietSteps
mod PartActions
mod SessionLines
pub mod RunContents
mod ActionExamples
mod Takes
mod SingleTakes
pub mod Orders
mod RingLayout
mod ShapeCuts
pub mod CommonState
mod OwedRows
pub mod LinePieces
pub mod SettlementEntries
pub mod ActionShapes
pub mod RingPuts
pub mod StartLoads
pub mod EndEntries
pub mod FewTurns
pub mod Inquiries
pub mod LineEntries
pub mod JournalLines
pub mod StartEntries
mod OwedAmounts
mod AmountSums
mod PutWords
mod EventAmounts
mod StepAmounts
mod SettlementAmounts
mod LineAmounts
mod SessionExamples
pub mod StoreContents
pub mod StepFacts
pub mod Stints
pub mod SessionPhases
pub mod Journals
