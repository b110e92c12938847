-- Laws that the proofs cite, those of the demands too, and the promise.
pub mod PlaceLaws
pub mod NearestLaws
pub mod SearchLaws
pub mod Promise
