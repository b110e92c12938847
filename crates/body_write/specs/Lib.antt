-- The meaning of BODY written.
pub mod BodyBytes
