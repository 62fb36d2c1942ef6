pub mod ListingSteps
pub mod OutputSteps
pub mod PlanSteps
pub mod ReadingSteps
