mod KeptCalls
pub mod ViewCorners
mod CallTies
mod CallLooks
mod WordTies
mod ActionCalls
mod Waits
pub mod WriterWords
mod SetNumbers
mod LentHolds
mod RootActors
pub mod ChangeOrder
pub mod ActionLabels
pub mod FreshSeats
mod VersionContents
pub mod CallContents
pub mod WordFlags
pub mod ListSums
mod TicketOrder
pub mod JointCalls
mod Floors
mod Causes
mod CallOrder
mod SetOrder
mod Openings
mod WordFloors
mod Examples
mod ActorPhases
