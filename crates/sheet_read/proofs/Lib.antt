-- Laws that this crate's proofs and those above cite.
pub mod CutLaws
pub mod ItemLaws
pub mod TextLaws
pub mod BoundLaws
pub mod TurnLaws
pub mod PlaceLaws
pub mod FlatLaws
pub mod FitLaws
pub mod CleanLaws
pub mod VoiceLaws
