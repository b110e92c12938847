-- The meaning of a whole BODY decoded.
pub mod Body
