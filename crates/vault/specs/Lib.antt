-- The meaning of a channel in difference order, of the way back, and what is promised of both.
pub mod DifferenceOrder
pub mod Promise
