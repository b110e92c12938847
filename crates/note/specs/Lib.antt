-- What each call makes of a note.
pub mod Note
pub mod Fill
