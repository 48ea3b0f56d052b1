mod ActionExamples
mod CauseExamples
mod ChainExamples
mod ContentExamples
mod CountExamples
pub mod ShapeCuts
mod FloorExamples
pub mod Floors
pub mod ChainGrowth
pub mod ActionGuards
mod CutBounds
mod ActionOrder
pub mod PlainAgreement
mod RingExamples
mod SetupExamples
mod ShapeExamples
pub mod ClosedShapes
pub mod LineWalks
mod ExampleEntries
pub mod EachLists
pub mod Members
