pub mod SessionActions
pub mod SeatedViews
