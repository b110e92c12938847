-- Laws that this crate's proofs and those above cite.
pub mod ChunkLaws
pub mod RunLaws
pub mod StopLaws
pub mod WriteLaws
