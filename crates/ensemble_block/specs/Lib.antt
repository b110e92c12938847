-- The mix of a score: `Mixed` is what a mixed frame is, `Stretch` is for the code.
pub mod Mixed
pub mod Stretch
