-- The rules that turn a fill back. `Answers` is for the code: no reader of the rules needs it.
pub mod Rules
pub mod Answers
