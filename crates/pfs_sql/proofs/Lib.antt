mod WordNumbers
mod ItemLists
pub mod ExactReadings
mod CommandParts
pub mod CommandReadings
mod QuotedTexts
pub mod TokenCuts
mod FreshNames
pub mod SaidCommands
mod Examples
