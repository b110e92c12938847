-- The meaning of a sheet as chunks.
pub mod VoiceChunks
pub mod RecordChunks
