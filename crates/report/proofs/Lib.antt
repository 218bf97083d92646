-- What is proved of the indexing program's report, beside the proofs of its functions: lines of refusals, what the jobs say, texts in
-- pieces, what it makes of recorded rows and of any opening column, that it fits the program's room, and that its promises have one result.
pub mod Lines
pub mod Rows
pub mod Pieces
pub mod Recorded
pub mod Room
mod Unique
