-- Walk has the theorem about a sheet stepped through from its front.
pub mod Walk
