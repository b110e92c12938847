-- The rules that turn a mix back.
pub mod Rules
