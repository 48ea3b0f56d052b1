pub mod EventTerms
