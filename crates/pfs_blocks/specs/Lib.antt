pub mod PlayedBlocks
pub mod BlockNeeds
