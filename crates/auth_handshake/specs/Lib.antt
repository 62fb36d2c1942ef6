pub mod Digest
pub mod Messages
pub mod Readings
pub mod Written
pub mod Fields
pub mod Ends
pub mod Laws
