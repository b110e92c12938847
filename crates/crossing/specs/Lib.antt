-- The meaning of the nearest crossing, and what is promised of it. `Helpers` is for the code: no reader of the meanings needs it.
pub mod Crossing
pub mod Promise
pub mod Helpers
