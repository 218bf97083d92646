pub mod Turned
pub mod Tables
pub mod Counts
pub mod Slaves
pub mod Rows
pub mod Ends
mod Unique
