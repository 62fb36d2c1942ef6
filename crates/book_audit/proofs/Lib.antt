pub mod Passing
pub mod Named
pub mod Again
pub mod Strangers
