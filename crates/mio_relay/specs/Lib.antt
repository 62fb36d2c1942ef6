pub mod Connections
pub mod Faults
pub mod Holding
pub mod Limits
pub mod Loops
pub mod Turning
