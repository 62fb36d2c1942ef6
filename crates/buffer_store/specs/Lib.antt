pub mod Buffers
pub mod Durability
pub mod Calls
pub mod Openings
pub mod Refusals
pub mod Laws
pub mod Logs
pub mod Room
