mod EventSums
mod DiscardedSums
