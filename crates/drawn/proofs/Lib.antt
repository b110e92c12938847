-- Laws of draws and of the voice that they make, and the promise proved.
pub mod DrawLaws
pub mod VoiceLaws
pub mod Promise
