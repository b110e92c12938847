-- The meaning of fields: numbers of several bytes, signed numbers, what wraps in a signed byte, and payloads as records.
pub mod BigEndian
pub mod LittleEndian
pub mod Signed
pub mod Wrap
pub mod Tagged
