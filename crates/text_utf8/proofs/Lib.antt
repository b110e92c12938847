-- Laws that this crate's proofs and those above cite; Theorems has what stands of every list of bytes, Examples some lists worked.
pub mod MatchingLaws
pub mod StepLaws
pub mod FirstLaws
pub mod SpanLaws
pub mod SubsequenceLaws
pub mod FedLaws
pub mod Theorems
pub mod Examples
