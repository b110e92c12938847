-- Laws that this crate's proofs cite; Theorems has what stands of every payload, Examples some payloads worked.
pub mod WhiteSpaceLaws
pub mod TrimLaws
pub mod PlaceLaws
pub mod TidyLaws
pub mod LengthLaws
pub mod RecordLaws
pub mod Theorems
pub mod Examples
