-- What is proved of rows_text, beside the proofs of its functions: rows column by column, how its calls end, and that its promises have one
-- result.
pub mod Columns
pub mod Ends
mod Unique
