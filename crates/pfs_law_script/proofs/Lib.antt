pub mod QuietLines
mod ActionCounts
mod BlockActions
pub mod AskedLabels
pub mod BlockChanges
pub mod CourseSteps
pub mod ReportSpells
mod JournalBlocks
mod SessionDeeds
mod HistoryDues
mod RingDues
mod StepDues
mod SessionSlots
mod LineDues
mod BlockDues
mod WholeCourse
pub mod BlocksAhead
mod CourseExamples
mod Bools
mod LineBounds
mod ClassBounds
mod DigestBounds
mod OwnBlocks
mod NestedLines
mod PhasePrefixes
mod BlockBodies
mod PlayableLines
mod PhaseSplits
mod PhaseSessions
mod OwnLines
mod LineTotals
mod TruncationTexts
mod ActionTotals
mod BlockCounts
mod DigestTexts
mod PlayablePhases
mod BlockExamples
