-- What is written is read again.
pub mod Items
pub mod FileBack
pub mod FirstBadLaws
pub mod NoneBad
pub mod TextBack
pub mod FindLaws
pub mod PartsBack
pub mod Written
pub mod Theorem
