pub mod NamedChanges
