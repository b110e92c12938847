-- Laws that this crate's proofs and those above cite.
pub mod BigEndianLaws
pub mod LittleEndianLaws
pub mod SignedLaws
pub mod WrapLaws
pub mod TaggedLaws
