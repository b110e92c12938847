-- The meaning of a list of calls on a note, and of a function that makes such a list.
pub mod Play
pub mod Made
