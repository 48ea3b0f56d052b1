mod AppearanceLemmas
pub mod BuiltinNames
pub mod LinesBehind
pub mod BlockNests
pub mod CountLemmas
mod ReaderCounts
mod CleanBytes
pub mod SessionCourses
mod DraftSteps
mod EventExamples
pub mod EventLemmas
pub mod Exactness
pub mod FaultlessLines
pub mod NextFinds
mod FormExamples
mod FormLemmas
mod ScriptFronts
mod HeadLemmas
mod KnownLines
mod SettingNames
pub mod NameIds
pub mod AppearanceOrder
pub mod TextPlaces
mod AppearanceExamples
mod InternedNames
pub mod MarkNests
mod NestExamples
mod NumberLemmas
mod OpenKinds
pub mod HeadPasses
mod ReadingExamples
pub mod NameReferences
mod RegisterLemmas
pub mod SessionNames
mod SessionNests
mod FlagChanges
mod TestPlaces
mod StatementDigests
mod StableLines
pub mod FirstLines
mod ReaderSteps
pub mod PassSteps
mod HeadLines
mod RunningTotals
pub mod SessionTurns
pub mod WrittenLengths
