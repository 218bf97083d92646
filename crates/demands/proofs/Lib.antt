-- What is proved of the jobs together: Demands states it, on one page; the others hold the laws behind it.
pub mod Chains
pub mod Lists
pub mod Answers
pub mod Texts
pub mod Demands
