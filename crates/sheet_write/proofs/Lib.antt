-- Laws that the proofs cite. For the crates above: VoiceChunkLaws says that a sound sheet's records make its voice's chunks, and
-- BoundLaws how long these are.
pub mod StopLaws
pub mod MemberLaws
pub mod ZeroLaws
pub mod RecordChunkLaws
pub mod SectionChunks
pub mod GroupChunks
pub mod VoiceChunkLaws
pub mod BoundLaws
