-- What is proved of build, beside the proofs of its functions: columns laid, the rows by their parts, what refusal 10 lets through,
-- the two ends of a call, and that its promise has one result.
pub mod Columns
pub mod Rows
pub mod Requests
pub mod Ends
mod Unique
