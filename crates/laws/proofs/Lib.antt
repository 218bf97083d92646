-- General laws: lists, their places and tests, tables, the rules of a branch, and that an equation has one result.
pub mod Every
pub mod Places
pub mod Table
pub mod Rules
pub mod Unique
