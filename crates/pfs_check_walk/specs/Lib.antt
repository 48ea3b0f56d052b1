pub mod NumberTests
pub mod Walks
