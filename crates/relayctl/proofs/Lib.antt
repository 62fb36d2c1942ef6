pub mod Dropping
pub mod Explanations
pub mod Leaving
pub mod Stopping
pub mod Stops
