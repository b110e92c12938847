-- Laws of the runs of records in a sheet, and of a voice's parts in its flat form.
pub mod StretchLaws
pub mod PartLaws
pub mod PlaceLaws
pub mod ThereLaws
pub mod SoundLaws
pub mod MemberLaws
pub mod NextLaws
pub mod PointLaws
