pub mod ActionOrders
pub mod HeldCopies
pub mod InfoWords
pub mod Replays
