-- The meaning of the small chunks, a file for each.
pub mod Channel
pub mod Pan
pub mod Envelope
pub mod Sequence
