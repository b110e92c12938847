-- Definitions that the contracts of several crates cite.
pub mod Walk
pub mod Put
pub mod Buffer
pub mod Turns
pub mod Among
