pub mod LinesRead
pub mod NoSteps
pub mod OneText
pub mod OneReading
pub mod Places
