pub mod PlayedBlocks
pub mod BoardActors
mod NextPhase
pub mod PlayedSpells
mod EndReads
