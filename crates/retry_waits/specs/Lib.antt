pub mod Waits
pub mod Failed
