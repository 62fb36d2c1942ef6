pub mod Lines
pub mod Listings
pub mod Output
pub mod Plans
pub mod Texts
pub mod Version
pub mod Stops
