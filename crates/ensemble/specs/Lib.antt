-- What a call of the mixer gives and leaves, and what that means.
pub mod Mix
pub mod Calls
pub mod Promise
