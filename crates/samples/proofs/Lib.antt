-- Laws that the proofs cite, and the promise.
pub mod PeakLaws
pub mod FirstPeak
