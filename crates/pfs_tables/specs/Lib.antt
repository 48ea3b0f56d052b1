pub mod EventRows
pub mod Fits
pub mod TableOrders
pub mod PlaceTables
pub mod ListedRows
