-- Laws that the proofs cite.
pub mod ScaleLaws
pub mod LevelLaws
