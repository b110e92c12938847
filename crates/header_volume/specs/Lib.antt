-- The meaning of a volume as a float.
pub mod Volume
