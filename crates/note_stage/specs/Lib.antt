-- What the code of a block asks and gives.
pub mod Block
