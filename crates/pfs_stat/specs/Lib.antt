pub mod Stat
