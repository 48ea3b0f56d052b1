pub mod DeedOrder
pub mod FallenDeeds
