pub mod Adapting
pub mod Answers
pub mod Confs
pub mod Items
pub mod Lines
pub mod Networks
pub mod Printed
