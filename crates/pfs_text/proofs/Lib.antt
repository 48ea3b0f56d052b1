mod QuoteEnds
mod Digits
mod Examples
mod LikeLemmas
mod Literals
pub mod QuoteLaws
mod Scans
