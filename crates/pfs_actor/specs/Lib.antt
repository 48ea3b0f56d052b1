pub mod ActionAsks
pub mod ActorDeeds
pub mod PlainViews
