pub mod Running
pub mod Starting
pub mod Loops
