pub mod Commands
pub mod CommandWords
