-- The meaning of a voice that is drawn from a number, and what is promised of it.
pub mod Draw
pub mod DrawnVoice
pub mod Promise
