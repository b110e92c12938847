-- Laws that this crate's proofs cite, RecordLaws also for the crates above, SoundLaws for those alone; Examples has some sheets judged.
pub mod RecordLaws
pub mod TextLaws
pub mod JudgeLaws
pub mod SoundLaws
pub mod Examples
