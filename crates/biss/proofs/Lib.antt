-- What is proved of the codes, beside the proofs of the calls: that codes are read back and lose nothing, and that the end of every call
-- has room in its code.
pub mod Lossless
pub mod Room
