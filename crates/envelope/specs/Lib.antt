-- The meaning of an envelope: quotients that cut toward zero, and the level at a time.
pub mod Level
pub mod Envelope
