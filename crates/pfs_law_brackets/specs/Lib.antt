pub mod BracketNumbers
