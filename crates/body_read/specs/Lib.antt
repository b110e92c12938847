-- The meaning of a voice's sides.
pub mod Sides
pub mod Answers
pub mod Helpers
