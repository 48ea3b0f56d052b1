mod InsertAnswers
mod Consumers
mod FlagBits
mod LoopLists
mod LoopRows
mod SelectedRows
pub mod OtherWords
mod ChangeExamples
mod ColumnFits
mod MadeRows
