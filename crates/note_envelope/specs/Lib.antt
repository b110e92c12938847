-- The meaning of a cursor on an envelope.
pub mod Cursor
