pub mod Networks
pub mod Replays
