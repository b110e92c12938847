-- Sums of values, and a sum held within 16 bits.
pub mod Sums
