pub mod Leaves
pub mod Outputs
pub mod Parts
pub mod Setups
