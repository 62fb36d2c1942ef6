pub mod Listing
pub mod RuleNumbers
