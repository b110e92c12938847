-- What the code of a block takes from the sheet, asks and gives. The frames themselves are defined in note_frame.
pub mod Stages
pub mod Block
