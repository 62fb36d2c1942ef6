pub mod Items
pub mod Contents
pub mod Stays
pub mod Writes
pub mod Made
pub mod Onward
pub mod Caused
pub mod Kept
mod Lasting
