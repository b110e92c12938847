-- Laws of the mix of a score: mixed frames, an entry in a stretch and added to its sums, where a stretch ends, its sums, and the block that
-- stretches fill.
pub mod MixedLaws
pub mod EntryLaws
pub mod AddLaws
pub mod StretchLaws
pub mod SumsLaws
pub mod BlockLaws
