-- The meaning of a reader's steps.
pub mod Steps
pub mod Walked
