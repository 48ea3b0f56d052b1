mod ContentSteps
pub mod DigestRows
mod Examples
pub mod RowKeys
pub mod PutOrder
pub mod NumberLists
mod SameRows
mod TallySteps
