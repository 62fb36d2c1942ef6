pub mod Notes
pub mod Sites
