pub mod Laws
pub mod StepLines
pub mod Texts
