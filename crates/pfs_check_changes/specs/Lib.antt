pub mod ActionNumbers
pub mod WrittenActions
