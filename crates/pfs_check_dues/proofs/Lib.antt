pub mod LineSpans
pub mod OwedFacts
