pub mod Changes
pub mod Same
pub mod Answers
pub mod Comparing
pub mod Asked
