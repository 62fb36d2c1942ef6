pub mod Cuts
pub mod Grammar
pub mod Items
pub mod Parts
pub mod Patterns
pub mod Prefixes
pub mod Rows
pub mod Survey
