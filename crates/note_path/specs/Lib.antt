-- The meaning of a path.
pub mod Path
pub mod Run
pub mod Segments
