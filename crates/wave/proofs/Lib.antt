-- Laws that the proofs cite, those of the demands too, and the promise.
pub mod RiffLaws
pub mod ValueLaws
pub mod WaveLaws
pub mod FileLaws
pub mod ReadBack
pub mod Promise
