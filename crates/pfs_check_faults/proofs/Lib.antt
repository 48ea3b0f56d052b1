pub mod ActedEntries
mod AnswersKept
mod BlockCuts
pub mod ChainFacts
mod EntryFacts
mod FaultExamples
mod KeptRules
pub mod MemberCounts
mod MovesKept
mod OneJudgement
mod OneLabels
mod RisingFacts
mod RuleOrder
mod RunRules
pub mod SetCounts
pub mod SetsOnce
mod SlotFacts
mod TicketFacts
