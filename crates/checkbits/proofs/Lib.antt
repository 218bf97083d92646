-- A division bit by bit and four bits at a time, how words are collected, and that each promise of this crate has one result.
mod Bitwise
mod Fours
mod Words
mod Unique
