pub mod Fed
pub mod Left
pub mod Listed
