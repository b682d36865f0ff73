pub mod Answers
pub mod Judging
