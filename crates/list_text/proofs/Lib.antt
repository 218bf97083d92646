-- What is proved of a list's lines, beside the proofs of its functions: a line by its parts, how long it can get, and a list entry by
-- entry.
pub mod Parts
pub mod Lists
pub mod Short
