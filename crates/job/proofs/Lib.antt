pub mod Refusals
pub mod Bits
pub mod Laid
pub mod Rows
