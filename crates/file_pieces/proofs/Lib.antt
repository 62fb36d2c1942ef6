pub mod Sums
pub mod Steps
pub mod ReadOn
pub mod Spans
