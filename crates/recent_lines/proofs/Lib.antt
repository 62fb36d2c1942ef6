pub mod Kept
mod Laws
mod Told
