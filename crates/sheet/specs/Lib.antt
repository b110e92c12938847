-- The meaning of the sheet. Start with Voice and Flat; Record, Order and Judge say how a sheet is judged, Read what it says.
-- TextState is for the code alone: how far the texts are judged after each record.
pub mod Voice
pub mod Flat
pub mod Record
pub mod Order
pub mod Read
pub mod Judge
pub mod Allowed
pub mod TextState
