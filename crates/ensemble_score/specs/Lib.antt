-- A score that was taken over from a lent slice.
pub mod Score
