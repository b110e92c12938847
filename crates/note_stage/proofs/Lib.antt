-- Laws of the playhead, of a stretch of frames, of a stage's frames, and of a block that is being written.
pub mod PlayheadLaws
pub mod StretchLaws
pub mod BlockLaws
pub mod PlayLaws
