mod ChangingEntries
mod HadVersions
mod HeldWalks
mod OrderlyLaws
mod PlacedWalks
mod RowChains
