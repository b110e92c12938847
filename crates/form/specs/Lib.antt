-- The meaning of a FORM's chunks: their names, the first bad one, and the chunks of a name.
pub mod Names
pub mod Kind
pub mod FirstBad
pub mod Find
