pub mod Zeros
pub mod Commands
