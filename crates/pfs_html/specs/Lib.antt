pub mod Cells
pub mod Escapes
pub mod Journals
pub mod Pages
pub mod Rankings
pub mod Readings
pub mod Tables
