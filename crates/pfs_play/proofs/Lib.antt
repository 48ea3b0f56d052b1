pub mod ActionParts
pub mod FurtherDeeds
mod ErrandParts
pub mod NextLines
pub mod RepeatedLines
pub mod WrittenRepeats
pub mod NeedSteps
pub mod LineLabels
mod ReadingCounts
mod LineCosts
pub mod HeldBounds
pub mod PassedLines
