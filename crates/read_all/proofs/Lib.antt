-- What is proved of the table's call, beside the proofs of the functions: worked tables, what the passes know, that the promise has one
-- result, and that each job is as its single call.
pub mod Cases
pub mod Tables
mod Wider
mod Ends
mod Passes
mod Unique
pub mod Single
