pub mod Fates
pub mod NetworkSteps
pub mod Taken
