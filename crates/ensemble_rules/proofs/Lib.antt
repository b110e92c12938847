-- Laws that this crate's proofs and those above cite.
pub mod RuleLaws
