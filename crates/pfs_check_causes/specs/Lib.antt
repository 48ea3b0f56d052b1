pub mod CauseIndexes
pub mod FreeReleases
pub mod GreatestPuts
pub mod OwnVersions
pub mod TicketPuts
pub mod WordTests
