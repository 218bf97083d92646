-- What is proved of the table, beside the proofs of its functions.
pub mod Length
