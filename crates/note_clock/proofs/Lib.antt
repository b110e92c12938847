-- Laws of a clock that is carried from frame to frame.
pub mod ClockLaws
