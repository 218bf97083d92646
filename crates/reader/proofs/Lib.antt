-- A command's columns as protocol's reader has them, a step by its parts, and that the promises of this crate have one result each.
pub mod Answering
pub mod Turns
mod Unique
