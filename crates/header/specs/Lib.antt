-- The meaning of the voice header.
pub mod Compression
pub mod Header
pub mod Octaves
pub mod Frequency
