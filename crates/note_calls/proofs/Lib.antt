-- Laws of lists of calls: their room, the part of a buffer that a fill is lent, what they put out, and calls under way.
pub mod RoomLaws
pub mod PartLaws
pub mod PlayLaws
pub mod UnderwayLaws
