pub mod Differences
pub mod Parts
pub mod Puts
pub mod Judging
pub mod Lengths
pub mod Whole
pub mod OneKey
