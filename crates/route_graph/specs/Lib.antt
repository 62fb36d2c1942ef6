pub mod Chains
pub mod Laws
pub mod Listing
pub mod Table
pub mod Visits
pub mod Walks
pub mod Ways
