-- Laws that the proofs cite.
pub mod WriteLaws
pub mod RoomLaws
