pub mod TakenSources
pub mod ToldContexts
