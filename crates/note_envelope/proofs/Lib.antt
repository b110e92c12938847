-- Laws that the proofs cite.
pub mod PointLaws
pub mod CursorLaws
