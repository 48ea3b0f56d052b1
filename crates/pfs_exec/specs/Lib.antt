pub mod NewRows
pub mod Plans
pub mod Selections
pub mod RequestLaws
pub mod Requests
