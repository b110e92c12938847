-- The meaning of a text: what is kept of a payload, and how it stands on the sheet.
pub mod WhiteSpace
pub mod Text
pub mod Place
pub mod TextRecords
