mod Entries
mod Held
mod Listed
mod Outputs
mod Passes
mod Pieces
mod Printed
mod Sequence
pub mod Chunks
pub mod Deeper
pub mod Eventful
pub mod Instants
pub mod Integers
pub mod Items
pub mod Members
pub mod Naming
pub mod Scalars
pub mod Steps
pub mod Stored
pub mod Wholes
