-- The voice's own rules.
pub mod Rules
