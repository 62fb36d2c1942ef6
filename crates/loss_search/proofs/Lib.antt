pub mod LosingSteps
