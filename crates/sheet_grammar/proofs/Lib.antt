-- Judging accepts a sheet exactly if it is the flat form of an allowed voice, and that voice is unique: Theorem.
-- Sheets are bytes, then records (RecordLaws, OrderLaws), then groups of records by kind (KindLaws, Sections, GroupLaws, Regroup),
-- then the parts of a voice (FormLaws, FieldForms, VoiceForms, VoiceLaws).
pub mod ListLaws
pub mod RecordLaws
pub mod OrderLaws
pub mod KindLaws
pub mod Sections
pub mod GroupLaws
pub mod Regroup
pub mod FormLaws
pub mod FieldForms
pub mod VoiceForms
pub mod VoiceLaws
pub mod FlatLaws
pub mod SheetLaws
pub mod Theorem
