pub mod Adapting
pub mod Checking
pub mod Dropping
pub mod Explaining
pub mod Faults
pub mod Labels
