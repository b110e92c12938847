-- The meaning of Fibonacci-delta coding.
pub mod Step
pub mod Decode
pub mod Pick
pub mod Encode
pub mod Wrapping
pub mod Helpers
