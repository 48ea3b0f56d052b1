pub mod AskFacts
pub mod CountFacts
pub mod PlaceSums
pub mod RisingFacts
pub mod RisingLaws
pub mod ShownFacts
pub mod TicketLaws
pub mod TicketsKept
