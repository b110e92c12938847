-- Laws of paths and of the runs along them.
pub mod SegmentLaws
pub mod AheadLaws
pub mod LengthLaws
pub mod OctavePathLaws
pub mod EndLaws
pub mod RunLaws
pub mod TurnLaws
