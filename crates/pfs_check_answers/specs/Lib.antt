pub mod AnswerJudgements
pub mod BlockSelects
pub mod RowCounts
pub mod SelectParts
pub mod SelectReadings
