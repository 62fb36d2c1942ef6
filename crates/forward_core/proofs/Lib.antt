pub mod Streaming
pub mod Stepping
pub mod Asking
pub mod Replying
pub mod Shaking
