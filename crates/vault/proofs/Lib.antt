-- Laws that this crate's proofs and those above cite.
pub mod OctaveLaws
pub mod BackLaws
pub mod ChannelLaws
pub mod JudgeLaws
pub mod Promise
