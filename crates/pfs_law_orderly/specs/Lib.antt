pub mod HadVersions
pub mod HeldEvents
pub mod RuledChanges
