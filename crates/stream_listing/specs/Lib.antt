pub mod HexText
pub mod Listing
pub mod Decoding
pub mod Laws
