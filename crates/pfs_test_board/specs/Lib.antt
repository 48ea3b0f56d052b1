pub mod TestActors
pub mod TestBlocks
