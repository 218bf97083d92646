pub mod Turns
pub mod Silence
pub mod Heads
pub mod Accesses
pub mod Commands
mod Unique
