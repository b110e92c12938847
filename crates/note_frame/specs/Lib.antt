-- The meaning of a note's frames. `Gains` is for the code: no reader of a frame needs it.
pub mod Shares
pub mod Frame
pub mod Frames
pub mod PanFirst
pub mod Velocity
pub mod Gains
