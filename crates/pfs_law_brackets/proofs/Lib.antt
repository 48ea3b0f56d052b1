mod EventLines
pub mod LineTags
mod LineWalks
mod SessionWalks
