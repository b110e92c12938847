-- Laws that the proofs cite.
pub mod NibbleLaws
pub mod BodyLaws
