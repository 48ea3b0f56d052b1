pub mod ReplayTurns
pub mod ToldContents
