pub mod Going
pub mod Hearing
mod Turning
