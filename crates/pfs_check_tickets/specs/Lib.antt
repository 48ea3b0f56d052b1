pub mod PrintedPuts
pub mod PutCounts
pub mod RisingPuts
pub mod ShownPuts
pub mod TicketRules
