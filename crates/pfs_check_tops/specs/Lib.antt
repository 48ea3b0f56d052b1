pub mod Greatest
pub mod SortedTops
