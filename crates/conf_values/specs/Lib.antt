pub mod Numbers
pub mod Amounts
pub mod Words
pub mod Laws
