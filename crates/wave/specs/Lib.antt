-- The meaning of an octave as a WAVE file. `Helpers` is for the code: no reader of the meanings needs it.
pub mod Riff
pub mod Wave
pub mod ReadBack
pub mod Promise
pub mod Helpers
