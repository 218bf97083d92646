-- The zeros as protocol's timer counts them, and that the promises of this crate have one result each.
pub mod Zeros
mod Unique
