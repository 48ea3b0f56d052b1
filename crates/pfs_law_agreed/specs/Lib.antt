pub mod QuietPhases
pub mod AlignedEvents
pub mod Agreement
pub mod ToldLines
pub mod FirstPhases
pub mod SameRows
pub mod AgreedExamples
