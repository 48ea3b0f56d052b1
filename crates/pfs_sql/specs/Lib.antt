pub mod Errors
pub mod Tokens
pub mod TokenWords
pub mod Grammar
pub mod TokenReaders
pub mod TextCuts
