pub mod Desks
pub mod LabelWords
pub mod DeskLaws
pub mod DeskActions
