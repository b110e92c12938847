-- Laws of the next block of a note.
pub mod StartLaws
pub mod StageLaws
pub mod WholeLaws
pub mod AcceptedLaws
pub mod SheetLaws
pub mod ReadyLaws
pub mod BeginLaws
