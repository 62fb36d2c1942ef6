pub mod Custody
pub mod Onward
