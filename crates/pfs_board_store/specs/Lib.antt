pub mod Ties
pub mod Looks
pub mod ActorCalls
pub mod WriterWords
pub mod RootActors
pub mod RootLaws
pub mod ActorPhases
