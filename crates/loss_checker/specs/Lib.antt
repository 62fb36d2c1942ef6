pub mod Broken
pub mod Kept
