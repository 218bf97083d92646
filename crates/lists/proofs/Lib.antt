-- What is proved of a list's bytes, beside the proofs of its functions.
pub mod Walk
