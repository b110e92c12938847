-- The meaning of writing a file.
pub mod WriteVoice
