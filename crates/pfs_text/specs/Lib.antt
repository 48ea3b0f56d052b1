pub mod Decimals
pub mod Likes
pub mod Conditions
pub mod Patterns
pub mod QuotedTexts
pub mod ScanSteps
