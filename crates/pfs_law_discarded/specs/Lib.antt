pub mod DiscardedSums
