-- Laws that the proofs of every crate cite.
pub mod Cases
pub mod WalkLaws
pub mod PutLaws
pub mod Prefix
pub mod TurnLaws
pub mod Signed
pub mod Table
pub mod Floats
