-- The meaning of the chunk walk, and of a chunk written.
pub mod Chunk
pub mod ChunkBytes
pub mod ForCode
