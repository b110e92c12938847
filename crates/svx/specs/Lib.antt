-- The meaning of the C interface.
pub mod Answers
pub mod Shapes
pub mod Notes
