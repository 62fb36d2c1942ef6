mod Lawful
mod Pooling
pub mod Sharing
