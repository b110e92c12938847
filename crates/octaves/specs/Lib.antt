-- The meaning of the parts of a voice's samples.
pub mod Part
pub mod Side
pub mod Octave
pub mod ForCode
