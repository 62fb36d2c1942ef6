pub mod Accepting
pub mod Drawing
pub mod Endpoints
pub mod Traffics
