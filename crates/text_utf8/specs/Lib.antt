-- The meaning of UTF-8: the Unicode Standard, section 3.9.
pub mod Table
pub mod Utf8
pub mod Step
pub mod Lead
pub mod Feed
