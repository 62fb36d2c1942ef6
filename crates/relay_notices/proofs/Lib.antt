pub mod Sharing
pub mod Saying
