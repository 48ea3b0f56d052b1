mod HeldSteps
pub mod PickedPlaces
pub mod ReplaySteps
pub mod ReplayedChanges
pub mod ShelvedContents
