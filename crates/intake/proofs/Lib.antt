-- What is proved of intake, beside the proofs of its functions: what was printed stands at the start of its buffer, and is the report on
-- what was read.
pub mod Counted
pub mod Known
