pub mod Sums
pub mod TicketSums
pub mod VersionChains
mod WordFlags
mod NeverFalling
pub mod MarkSums
pub mod CallPlaces
pub mod NamedVersions
mod LaterActions
pub mod HadVersions
mod Floors
mod Causes
mod SameContents
mod PlainShares
mod Examples
