mod Counting
mod Finding
mod Growing
mod Naming
mod Pairing
pub mod Sharing
mod Spanning
mod Writing
