pub mod StartingSteps
pub mod RunningSteps
pub mod Crossings
pub mod Ending
