pub mod Build
pub mod Parts
