-- The refusals' names, the meaning of an entry that fills one lent buffer, and rules judged in order.
pub mod Refusal
pub mod Outcome
pub mod Rules
pub mod Room
