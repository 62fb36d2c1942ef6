pub mod Table
pub mod Changed
pub mod Listed
pub mod Stops
pub mod Moments
pub mod Causes
pub mod Outcomes
mod Failing
mod Written
