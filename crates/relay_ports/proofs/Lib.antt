pub mod Leading
pub mod Ordering
pub mod Refusing
pub mod Sought
pub mod Spreading
