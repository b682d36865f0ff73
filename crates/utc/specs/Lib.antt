pub mod Leaps
pub mod Days
pub mod Readings
pub mod Answers
pub mod Asked
