mod Written
pub mod Left
pub mod Kept
pub mod Bytes
pub mod Ends
mod Unique
