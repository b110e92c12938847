-- Laws that the proofs cite.
pub mod VoiceLaws
pub mod ReadLaws
pub mod AnswerLaws
