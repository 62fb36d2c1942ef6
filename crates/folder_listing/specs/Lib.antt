pub mod Files
pub mod Findings
pub mod Placed
