pub mod Adding
pub mod Among
pub mod Joining
pub mod Printing
pub mod Searching
pub mod Seeking
pub mod Sending
