-- What a clock shows, and what a frame does to it.
pub mod Clock
