-- What is proved of argument, beside the proofs of its functions: arguments digit by digit, and that its promise has one result.
pub mod Digits
mod Unique
