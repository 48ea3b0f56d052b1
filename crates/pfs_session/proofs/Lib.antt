mod EventAnswers
pub mod EndFrames
mod CallEnds
mod PutCalls
pub mod HeldAmounts
pub mod OfferedPlaces
pub mod StepLists
mod EventSteps
