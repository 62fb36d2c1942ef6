pub mod HexPairs
pub mod HexSteps
pub mod ArrivalSteps
pub mod DecodeSteps
pub mod HexReadings
pub mod FaultLaws
pub mod Listings
pub mod RestFaults
