-- Laws of the entries of a score that was taken over, and of entries stored as numbers.
pub mod ScoreLaws
pub mod StoreLaws
