pub mod Serials
pub mod Named
pub mod Tables
pub mod Slots
pub mod Steps
pub mod Rooms
pub mod Alike
