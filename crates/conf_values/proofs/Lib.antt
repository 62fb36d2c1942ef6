pub mod Numbers
pub mod Amounts
