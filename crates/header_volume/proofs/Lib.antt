-- Laws of the volume's float.
pub mod VolumeLaws
