-- Laws that the proofs cite.
pub mod BodyBytesLaws
pub mod PartLaws
