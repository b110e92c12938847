-- Laws that this crate's proofs and those above cite.
pub mod StepLaws
pub mod Least
pub mod NearestLaws
pub mod PickLaws
pub mod SearchLaws
pub mod TableLaws
pub mod DecodeLaws
pub mod EncodeLaws
pub mod Survive
pub mod Examples
pub mod Wrapping
