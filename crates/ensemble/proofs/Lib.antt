-- Laws of a call of the mixer, and what is promised of a mix.
pub mod MixLaws
pub mod FitsLaws
pub mod AcceptedLaws
pub mod Promise
pub mod ByValueLaws
