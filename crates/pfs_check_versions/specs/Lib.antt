pub mod ActionLabels
pub mod LinkTests
pub mod PlacedChanges
pub mod PrintedEntries
pub mod RisingTests
pub mod VersionRules
