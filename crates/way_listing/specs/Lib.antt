pub mod Lines
pub mod Outputs
pub mod Sendings
pub mod Ways
