-- The laws of a FORM's chunks.
pub mod FormLaws
pub mod FindLaws
pub mod Unknown
