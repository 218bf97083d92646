pub mod ReadAll
pub mod Passes
