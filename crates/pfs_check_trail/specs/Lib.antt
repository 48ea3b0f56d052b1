pub mod OpenCounts
pub mod Trails
