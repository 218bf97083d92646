-- What is proved of the kinds' numbers, beside the proof of the function.
pub mod Numbers
