pub mod Laws
pub mod Names
pub mod Outputs
pub mod Places
pub mod Rows
