-- The meaning of samples: a channel's bytes as samples, the two halves of BODY, and the peak, with what is promised of it.
pub mod Stream
pub mod Halves
pub mod Peak
pub mod FirstPeak
