pub mod Connections
pub mod Administration
pub mod ContainerState
pub mod PlaceInfos
pub mod Uppers
pub mod PlaceLaws
pub mod InfoWords
