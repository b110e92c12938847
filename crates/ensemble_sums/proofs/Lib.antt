-- Laws of sums, which the proofs here and in the crates above cite.
pub mod SumLaws
