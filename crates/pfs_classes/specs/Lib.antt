pub mod Builtins
pub mod Kinds
pub mod Registry
pub mod Settings
