-- Laws that the proofs cite.
pub mod ChannelLaws
pub mod SideLaws
pub mod SampleLaws
