pub mod Pieces
pub mod Adding
pub mod Reading
pub mod Runs
