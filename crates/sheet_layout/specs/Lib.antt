-- Where the parts of a voice lie in its sheet: for code that takes them from there, since what a sheet says is sheet's `read_sheet`.
pub mod Joined
pub mod Layout
pub mod Stretch
pub mod Members
