-- The meaning of a FORM as a sheet.
pub mod FormVoice
pub mod Parts
pub mod ForCode
