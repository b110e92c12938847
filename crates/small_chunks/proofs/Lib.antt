-- Laws that this crate's proofs and those above cite.
pub mod FieldLaws
pub mod ChannelLaws
pub mod PanLaws
pub mod SequenceLaws
