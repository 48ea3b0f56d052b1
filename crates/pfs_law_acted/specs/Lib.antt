pub mod ActedParts
