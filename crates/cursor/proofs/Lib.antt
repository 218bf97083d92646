-- What is proved of the line walk, beside the proofs of its functions: a text taken byte by byte and line by line, and that its promises
-- have one result.
pub mod Lines
mod Unique
