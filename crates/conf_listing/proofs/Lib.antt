pub mod Accepting
pub mod Accounting
pub mod Drafting
pub mod EachConf
