pub mod BuiltinLemmas
mod Examples
mod KindLemmas
mod NameKinds
pub mod RegisterNames
pub mod RowTexts
pub mod RegistryLemmas
