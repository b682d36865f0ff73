pub mod Tick
pub mod Scales
pub mod Answers
pub mod Linear
pub mod Rows
pub mod Path
