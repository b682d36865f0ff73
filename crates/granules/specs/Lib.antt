pub mod Tests
pub mod Answers
pub mod Accepted
pub mod Pass
