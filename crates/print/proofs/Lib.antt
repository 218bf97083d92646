-- What is proved of printing, beside the proofs of its functions: parts laid one after the other, decimal numbers, how a job
-- that prints ends, and that its promises have one result.
pub mod Laid
pub mod Decimal
pub mod Ends
pub mod Unique
