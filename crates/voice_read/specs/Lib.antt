-- The meaning of reading a file.
pub mod ReadVoice
pub mod Parsed
