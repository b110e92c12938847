-- Laws that this crate's proofs and those above cite.
pub mod ChainLaws
pub mod SharesLaws
pub mod GainsLaws
pub mod FrameLaws
pub mod FramesLaws
pub mod PanFirst
pub mod Velocity
pub mod Examples
