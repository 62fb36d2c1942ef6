pub mod Stubs
pub mod Audits
pub mod Printed
pub mod Naming
