pub mod Carrying
pub mod Talks
pub mod Turns
