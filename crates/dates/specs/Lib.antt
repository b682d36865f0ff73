pub mod Doubles
pub mod Ticks
pub mod Readings
pub mod Splits
pub mod Written
pub mod Answers
pub mod Inner
